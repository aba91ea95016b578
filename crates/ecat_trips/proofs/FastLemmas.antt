-- Frames of one key have one number that is told fast.
use Rattle.std.proofs.Common.{◌≡◌, ℕ, ◌+◌, ◌*◌, ◌/◌, ◌&&◌, Bool, true, false, eqb, List}
use Rattle.std.proofs.Common.{[], ◌∷◌, length, Option, None, Some, refl, sym, ap, ◌∙◌}
use Rattle.std.specs.Cmp.Lexicographic.{pointwise}
use Rattle.std.proofs.lemmas.Bool.{and_parts, eqb-true, true≢false}
use Rattle.ec_wire.specs.Datagram.{DatagramRecord, code_of, command_of}
use Rattle.ec_wire.specs.declared.command.Command.{Command}
use Rattle.ec_wire.proofs.Laws.{command_of-code_of}
use Rattle.ecat_trips.specs.declared.trip.SentFrame.{SentFrame}
use Rattle.ecat_trips.specs.Alike.{kept_address, number_at, number_at_first, number_behind, same_key}
use Rattle.ecat_trips.specs.Alike.{same_question, same_question_at, same_trip, told_fast, told_fast_by}
use Rattle.ecat_trips.specs.Trip.{bears}

number_same : (s d : DatagramRecord) → same_question_at s d ≡ true → number_at s ≡ number_at d
number_same s d e =
    let code = eqb (code_of d.command) (code_of s.command) in
    let index = eqb d.index s.index in
    let size = eqb (length d.payload) (length s.payload) in
    let place = eqb (kept_address s.command d.address) (kept_address s.command s.address) in
    let third = and_parts (code && index && size) place e in
    let second = and_parts (code && index) size third.0 in
    let first = and_parts code index second.0 in
    let same_code : code_of d.command ≡ code_of s.command = eqb-true _ _ first.0 in
    let same_index : d.index ≡ s.index = eqb-true _ _ first.1 in
    let same_size : length d.payload ≡ length s.payload = eqb-true _ _ second.1 in
    let same_place : kept_address s.command d.address ≡ kept_address s.command s.address
    = eqb-true _ _ third.1 in
    let command : d.command ≡ s.command =
    sym (command_of-code_of d.command) ∙ ap command_of same_code ∙ command_of-code_of s.command in
    let placed : kept_address d.command d.address ≡ kept_address s.command s.address =
    ap (λ (c : Command). kept_address c d.address) command ∙ same_place in
    λ t. sym same_code t + 16 * sym same_index t + 4096 * sym same_size t + 8388608 * sym placed t

first_same : (s f : List DatagramRecord) → same_question s f ≡ true → number_at_first s ≡ number_at_first f
unfolding same_question
first_same [] [] e = refl
first_same [] (d ∷ ds) e = absurd (true≢false (sym e))
first_same (s ∷ ss) [] e = absurd (true≢false (sym e))
first_same (s ∷ ss) (d ∷ ds) e =
    number_same s d (and_parts (same_question_at s d) (pointwise same_question_at ss ds) e).0

fast_same : (m n : Option ℕ) (s f : List DatagramRecord) → same_trip m n ≡ true → same_question s f ≡ true
    → told_fast_by m s ≡ told_fast_by n f
fast_same None None s f trip asked = first_same s f asked
fast_same None (Some n) s f trip asked = absurd (true≢false (sym trip))
fast_same (Some m) None s f trip asked = absurd (true≢false (sym trip))
fast_same (Some m) (Some n) s f trip asked = eqb-true (m / 2) (n / 2) trip

key_fast : (s f : List DatagramRecord) → same_key s f ≡ true → told_fast s ≡ told_fast f
unfolding told_fast
key_fast s f e =
    let parts = and_parts (same_trip (number_behind s) (number_behind f)) (same_question s f) e in
    fast_same (number_behind s) (number_behind f) s f parts.0 parts.1

-- so a frame of another number does not bear the key
pub other_fast : (f : List DatagramRecord) (s : SentFrame) → (told_fast s.frame ≡ told_fast f → ⊥)
    → bears f s ≡ false
other_fast f s other = by (same_key s.frame f) refl
  where
    by : (b : Bool) → same_key s.frame f ≡ b → bears f s ≡ false
    by true e = absurd (other (key_fast s.frame f e))
    by false e = e
