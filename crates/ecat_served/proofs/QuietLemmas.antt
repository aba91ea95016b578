-- A frame that only listens leaves each controller as it was: a packet of it is quiet.
use Rattle.std.specs.Prelude.{◌≡◌, ℕ, Bool, true, false, ◌&&◌, if◌then◌else◌}
use Rattle.std.specs.Prelude.{List, [], ◌∷◌, ◌++◌, length, take, drop, Option, None, refl}
use Rattle.std.proofs.Common.{ap, sym, subst, ◌∙◌, inl, inr}
use Rattle.std.proofs.lemmas.List.{take-append-drop}
use Rattle.ec_regs.proofs.Laws.{each-drop, each-take}
use Rattle.ec_wire.specs.Datagram.{DatagramRecord}
use Rattle.ec_wire.specs.declared.command.Command.{Command}
use Rattle.ec_esc.specs.Pass.{Half, effect, frame_pass, nothing, pass, read_by, read_sources, serves_read}
use Rattle.ec_esc.specs.Pass.{where_served, written_by}
use Rattle.ec_esc.specs.State.{ControllerState, IsController}
use Rattle.ec_esc.proofs.Laws.{written_nothing}
use Rattle.ec_line.specs.Trip.{back_pass, circulated, front_pass, line_pass}
use Rattle.ec_ring.specs.Reach.{back, front, turns}
use Rattle.ec_ring.specs.Walk.{Walked, is_circulating, walked, walked_from_a, walked_from_b}
use Rattle.ec_ring.specs.declared.links.Links.{Links}
use Rattle.ec_ring.specs.declared.port.Port.{Port}
use Rattle.ec_ring.specs.declared.port.Port.TheVariants.{A, B}
use Rattle.ecat_served.specs.History.{AreControllers, Packet}
use Rattle.ecat_served.specs.Trips.{IsListening, IsQuiet, Listens}
use Rattle.ecat_served.proofs.CopyLemmas.{starts}
use Rattle.ecat_served.proofs.HistoryLemmas.{unmoved_quiet}

-- ---- one controller

-- the controller behind a datagram of a command
abbrev behind : Command → ControllerState → DatagramRecord → ControllerState
behind x c d =
    let e = effect x c d.address (length d.payload) in read_by e.reading (written_by e.writing d.payload c)

pass_behind : (c : ControllerState) (d : DatagramRecord) → (pass c d).state ≡ behind d.command c d
unfolding pass
pass_behind c d = refl

-- no mailbox is read out
reads_out_none : (b : Bool) (places : ℕ → Option ℕ) (gain : ℕ) (c : ControllerState)
    → read_by (where_served b (record { places = places; gain = gain; mail = None })) c ≡ c
reads_out_none true places gain c = refl
reads_out_none false places gain c = refl

pass_listens : (c : ControllerState) (d : DatagramRecord) → IsController c → Listens d → (pass c d).state ≡ c
pass_listens c d is (inl nop) =
    pass_behind c d ∙ ap (λ (x : Command). behind x c d) nop
    ∙ ap (λ (x : ControllerState). read_by nothing x) (written_nothing c d.payload is)
pass_listens c d is (inr lrd) =
    let half : Half =
    where_served (serves_read c d.address (length d.payload))
    (record { places = read_sources c d.address; gain = 1; mail = None }) in
    pass_behind c d ∙ ap (λ (x : Command). behind x c d) lrd
    ∙ ap (λ (x : ControllerState). read_by half x) (written_nothing c d.payload is)
    ∙ reads_out_none (serves_read c d.address (length d.payload)) (read_sources c d.address) 1 c

-- what it makes of the datagram listens too
still_listens : (c : ControllerState) (d : DatagramRecord) → Listens d → Listens (pass c d).datagram
unfolding pass
still_listens c d (inl nop) = inl nop
still_listens c d (inr lrd) = inr lrd

-- the controller stays, and what leaves it listens
record Stays (c : ControllerState) (ds : List DatagramRecord) : Type 0 where
  same : (frame_pass c ds).state ≡ c
  listens : IsListening (frame_pass c ds).frame

frame_listens : (c : ControllerState) (ds : List DatagramRecord) → IsController c → IsListening ds
    → Stays c ds
unfolding frame_pass
frame_listens c [] is all = record { same = refl; listens = tt }
frame_listens c (d ∷ ds) is all =
    let here : (pass c d).state ≡ c = pass_listens c d is all.0 in
    let rest : Stays c ds = frame_listens c ds is all.1 in
    record {
      same = ap (λ (x : ControllerState). (frame_pass x ds).state) here ∙ rest.same;
      listens = (
        still_listens c d all.0,
        subst (λ (x : ControllerState). IsListening (frame_pass x ds).frame) (sym here) rest.listens,
      );
    }

-- ---- a line

line_listens : (xs : List ControllerState) (ds : List DatagramRecord) → AreControllers xs → IsListening ds
    → (line_pass xs ds).line ≡ xs
unfolding line_pass
line_listens [] ds all listens = refl
line_listens (x ∷ xs) ds all listens =
    let here : Stays x ds = frame_listens x ds all.0 listens in
    let rest : List ControllerState = (line_pass xs (frame_pass x ds).frame).line in
    ap (λ (s : ControllerState). s ∷ rest) here.same
    ∙ ap (λ (l : List ControllerState). x ∷ l) (line_listens xs (frame_pass x ds).frame all.1 here.listens)

front_listens : (n : ℕ) (xs : List ControllerState) (ds : List DatagramRecord) → AreControllers xs
    → IsListening ds → (front_pass n xs ds).line ≡ xs
front_listens n xs ds all listens =
    ap (λ (l : List ControllerState). l ++ drop n xs)
    (line_listens (take n xs) ds (each-take IsController n xs all) listens)
    ∙ take-append-drop n xs

back_listens : (n : ℕ) (xs : List ControllerState) (ds : List DatagramRecord) → AreControllers xs
    → IsListening ds → (back_pass n xs ds).line ≡ xs
back_listens n xs ds all listens =
    ap (λ (l : List ControllerState). take n xs ++ l)
    (line_listens (drop n xs) ds (each-drop IsController n xs all) listens)
    ∙ take-append-drop n xs

circulated_listens : (ds : List DatagramRecord) → IsListening ds → IsListening (circulated ds)
circulated_listens [] all = tt
circulated_listens (d ∷ ds) all = (all.0, circulated_listens ds all.1)

starts_listening : (b : Bool) (ds : List DatagramRecord) → IsListening ds
    → IsListening (if b then circulated ds else ds)
starts_listening true ds all = circulated_listens ds all
starts_listening false ds all = all

either_same : (gone : Bool) (line : List ControllerState) (w : Walked) → w.line ≡ line
    → (if gone then record { arrived = None; line = line } else w).line ≡ line
either_same true line w same = refl
either_same false line w same = same

walk_listens : (from : Port) (links : Links) (ds : List DatagramRecord) (line : List ControllerState)
    → AreControllers line → IsListening ds → (walked from links ds line).line ≡ line
unfolding walked_from_a walked_from_b
walk_listens A links ds line all listens = front_listens (front links (length line)) line ds all listens
walk_listens B links ds line all listens =
    let turned : Bool = turns links (length line) in
    either_same (turned && is_circulating ds) line _
    (back_listens (back links (length line)) line (starts links (length line) ds) all
    (starts_listening turned ds listens))

pub listening_quiet : (p : Packet) → AreControllers p.met → IsListening p.frame → IsQuiet p
listening_quiet p all listens = unmoved_quiet p (walk_listens p.from p.links p.frame p.met all listens)
