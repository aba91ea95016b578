-- A work is the list of its items: what a master asks of its slaves in each cycle, with the last answers.
use Rattle.std.specs.Prelude.{ℕ, List, [], ◌∷◌, ◌++◌, take, drop, slice_index_or}
use Rattle.ec_wire.specs.Datagram.{DatagramRecord, adp_of}
use Rattle.ec_wire.specs.declared.kind.Kind.TheVariants.{Lrd}
use Rattle.ec_map.specs.Item.{ItemRecord, with_adp}

-- what stands for an item that is not there
abbrev pub no_item : ItemRecord
no_item = record { kind = Lrd; address = 0; payload = []; counter = 0; adp = 0 }

-- the item with a number
abbrev pub nth_item : List ItemRecord → ℕ → ItemRecord
nth_item items k = slice_index_or items k no_item

-- an item that takes an answer: its data, its working counter and, for a broadcast read, its ADP
abbrev pub with_answer : ItemRecord → DatagramRecord → ItemRecord
with_answer r d = with_adp (record r { payload = d.payload; counter = d.counter }) (adp_of d.address)

-- items that take answers, each its own; those for which there is none stay
abbrev pub with_answers : List ItemRecord → List DatagramRecord → List ItemRecord
with_answers (r ∷ rs) (d ∷ ds) = with_answer r d ∷ with_answers rs ds
with_answers rs _ = rs

-- an item as if it had never been answered but for its data: counter and ADP are 0
abbrev pub rewound : ItemRecord → ItemRecord
rewound r = with_adp (record r { counter = 0 }) 0

-- items that take answers from number k on
abbrev pub with_answers_at : ℕ → List ItemRecord → List DatagramRecord → List ItemRecord
with_answers_at k rs ds = take k rs ++ with_answers (drop k rs) ds
