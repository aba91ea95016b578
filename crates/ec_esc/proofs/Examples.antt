-- The definitions, computed on small controllers: what FMMUs and areas let the master reach, and when an
-- area is shown.
use Rattle.std.proofs.Common.{◌≡◌, ℕ, true, false, eqb, List, [], ◌∷◌, ◌++◌, replicate, Some, None, refl}
use Rattle.ec_regs.specs.Pairs.{partner, pair_count}
use Rattle.ec_regs.specs.declared.fmmu.Fmmu.{Fmmu}
use Rattle.ec_regs.specs.declared.sync_man.SyncMan.{SyncMan}
use Rattle.ec_regs.specs.SyncMan.{is_active}
use Rattle.ec_areas.specs.Areas.{guards, hides, locks, is_readable, is_writable}
use Rattle.ec_areas.specs.Logical.{read_place, write_place, write_target, read_map, write_map, target_map}
use Rattle.ec_areas.specs.Logical.{read_places, target_places, names}
use Rattle.ec_areas.specs.Ranges.{meets, emptied_by, filled_by, gives_mail, takes_mail, takes_writes}
use Rattle.ec_areas.specs.Ranges.{some_address, serves_physical_read, serves_physical_write}
use Rattle.ec_esc.specs.Writing.{shown_after, is_shown_anew}

-- a buffered area with this control byte
abbrev area : ℕ → ℕ → ℕ → SyncMan
area start size control = record {
  start = start;
  length = size;
  control = control;
  status = 0;
  activate = 1;
  pdi = 0;
}

-- an FMMU that maps a run of logical bits onto memory from bit 0 of a byte on
abbrev fmmu : ℕ → ℕ → ℕ → ℕ → ℕ → ℕ → Fmmu
fmmu logical size start stop physical kind = record {
  logical = logical;
  length = size;
  start = start;
  stop = stop;
  physical = physical;
  bit = 0;
  kind = kind;
  activate = 1;
  reserved = 0 ∷ 0 ∷ 0 ∷ [];
}

-- outputs of one byte at 0x1000, inputs of one byte at 0x1100
abbrev managers : List SyncMan
managers = area 4096 1 4 ∷ area 4352 1 0 ∷ []

-- both mapped to the logical byte 0x00010000
abbrev both_ways : List Fmmu
both_ways = fmmu 65536 1 0 7 4096 2 ∷ fmmu 65536 1 0 7 4352 1 ∷ []

-- a read takes the inputs
reads_inputs : read_map managers both_ways 524288 ≡ Some 34816
unfolding read_map read_place partner pair_count is_readable hides guards is_active
reads_inputs = refl

-- a write reaches the outputs, from the first bit to the last and no further
writes_first_output : write_map managers both_ways 524288 8 32768 ≡ Some 0
unfolding write_map write_place partner pair_count is_writable locks guards is_active
writes_first_output = refl

writes_last_output : write_map managers both_ways 524288 8 32775 ≡ Some 7
unfolding write_map write_place partner pair_count is_writable locks guards is_active
writes_last_output = refl

writes_no_more : write_map managers both_ways 524288 8 32776 ≡ None
unfolding write_map write_place partner pair_count is_writable locks guards is_active
writes_no_more = refl

-- so both directions of an exchange are served
serves_both_reads : names (read_places managers both_ways 524288) 8 ≡ true
unfolding names read_map read_place partner pair_count is_readable hides guards is_active
serves_both_reads = refl

serves_both_writes : names (target_places managers both_ways 524288) 8 ≡ true
unfolding names target_map write_target partner pair_count is_writable locks guards is_active
serves_both_writes = refl

-- a read of the byte behind is not served
serves_no_read_behind : names (read_places managers both_ways 524296) 8 ≡ false
unfolding names read_map read_place partner pair_count is_readable hides guards is_active
serves_no_read_behind = refl

-- four bits from bit 6 of one logical byte to bit 1 of the next
abbrev four_bits : List Fmmu
four_bits = fmmu 65536 2 6 1 4352 1 ∷ []

reads_across_a_byte : read_map managers four_bits 524297 ≡ Some 34819
unfolding read_map read_place partner pair_count is_readable hides guards is_active
reads_across_a_byte = refl

reads_no_bit_before : read_map managers four_bits 524293 ≡ None
unfolding read_map read_place partner pair_count is_readable hides guards is_active
reads_no_bit_before = refl

-- two FMMUs write one byte from two logical ones: the later one prevails where its logical byte is in range
abbrev two_writers : List Fmmu
two_writers = fmmu 65536 1 0 7 4096 2 ∷ fmmu 65537 1 0 7 4096 2 ∷ []

later_writer_prevails : write_map managers two_writers 524288 16 32768 ≡ Some 8
unfolding write_map write_place partner pair_count is_writable locks guards is_active
later_writer_prevails = refl

later_writer_out_of_range : write_map managers two_writers 524288 8 32768 ≡ Some 0
unfolding write_map write_place partner pair_count is_writable locks guards is_active
later_writer_out_of_range = refl

-- outputs of two bytes are shown once their last byte was written, and not before
abbrev memory : List ℕ
memory = replicate 4096 0 ++ 170 ∷ 187 ∷ []

abbrev outputs : List SyncMan
outputs = area 4096 2 4 ∷ []

first_byte_shows_nothing : shown_after (λ address. eqb address 4096) outputs outputs memory (0 ∷ 0 ∷ [])
    ≡ 0 ∷ 0 ∷ []
unfolding shown_after is_shown_anew guards is_active
first_byte_shows_nothing = refl

last_byte_shows_all : shown_after (λ address. eqb address 4097) outputs outputs memory (0 ∷ 0 ∷ [])
    ≡ 170 ∷ 187 ∷ []
unfolding shown_after is_shown_anew guards is_active
last_byte_shows_all = refl

-- an area that a write makes active is shown, whatever was written
abbrev switched_off : List SyncMan
switched_off = record (area 4096 2 4) { activate = 0 } ∷ []

new_area_is_shown : shown_after (λ address. false) switched_off outputs memory (0 ∷ 0 ∷ []) ≡ 170 ∷ 187 ∷ []
unfolding shown_after is_shown_anew guards is_active
new_area_is_shown = refl

-- a mailbox of 16 bytes at 0x1800 that the master writes, and one at 0x1880 that it reads, empty and full
abbrev mailboxes : ℕ → List SyncMan
mailboxes status = record (area 6144 16 6) { status = status } ∷ record (area 6272 16 2) {
  status = status;
} ∷ []

a_part_fills_nothing : serves_physical_write [] (mailboxes 0) 6144 15 ≡ false
unfolding filled_by takes_mail meets is_active some_address
a_part_fills_nothing = refl

the_whole_fills_it : filled_by (mailboxes 0) 6144 16 ≡ Some 0
unfolding filled_by takes_mail meets is_active
the_whole_fills_it = refl

a_full_one_takes_nothing : serves_physical_write [] (mailboxes 8) 6144 16 ≡ false
unfolding filled_by takes_mail meets is_active some_address
a_full_one_takes_nothing = refl

an_empty_one_gives_nothing : serves_physical_read (mailboxes 0) 6272 16 ≡ false
unfolding emptied_by gives_mail meets is_active
an_empty_one_gives_nothing = refl

a_full_one_is_emptied : emptied_by (mailboxes 8) 6272 16 ≡ Some 1
unfolding emptied_by gives_mail meets is_active
a_full_one_is_emptied = refl

-- AL status is read and not written; of four bytes from 0x0011 on the first is written
al_status_is_read : serves_physical_read [] 304 2 ≡ true
unfolding emptied_by
al_status_is_read = refl

al_status_is_not_written : serves_physical_write [] [] 304 2 ≡ false
unfolding filled_by takes_writes some_address
al_status_is_not_written = refl

one_byte_of_four_is_written : serves_physical_write [] [] 17 4 ≡ true
unfolding filled_by takes_writes some_address
one_byte_of_four_is_written = refl

and_it_is_the_first : takes_writes [] 17 ≡ true
unfolding takes_writes
and_it_is_the_first = refl

and_no_other : takes_writes [] 18 ≡ false
unfolding takes_writes
and_no_other = refl

-- the range ends with the memory
the_last_byte_is_read : serves_physical_read [] 12287 1 ≡ true
unfolding emptied_by
the_last_byte_is_read = refl

past_the_memory_nothing_is_read : serves_physical_read [] 12287 2 ≡ false
unfolding emptied_by
past_the_memory_nothing_is_read = refl
