use Rattle.std.proofs.Common.{rules, ◌≡◌, ◌<◌, ◌+◌, ℕ, ◌∷◌, [], List, map, length, remove, sym, ap, subst}
use Rattle.std.proofs.Common.{true, All, ◌∙◌, arith}
use Rattle.std.proofs.Common.{length-append}
use Rattle.std.proofs.lemmas.List.{length-map}
use Rattle.std.proofs.lemmas.List.Edits.{length-remove}
use Rattle.ecat_trips.specs.declared.trip.SentFrame.{SentFrame}
use Rattle.ecat_trips.specs.Lost.{number_of}
use Rattle.ecat_trips.specs.Seen.{is_seen}
use Rattle.ecat_trips.proofs.QueueLemmas.{All-remove}
use Rattle.ecat_trips.proofs.LostLemmas.{remove-map}
use Rattle.ecat_trips.proofs.lost.Lost.forget.Goals as goal

pub invariant_of-self : goal.invariant_of-self
invariant_of-self c =
    let old = c.self.inside.frames.items in
    let same : length c.self.inside.numbers.items ≡ length c.args.self.now =
    ap (λ (ns : List ℕ). length ns) (c.self.invariant.3 ∙ ap (map number_of) c.self.view_is)
    ∙ length-map c.args.self.now number_of in
    let within : c.args.i < length c.self.inside.numbers.items = omega (arith, same) in
    let whole : length old ≡ length c.args.self.now = ap (λ (l : List SentFrame). length l) c.self.view_is in
    let inside : c.args.i < length old = omega (arith, whole) in
    let frames : c.remove-2.new.self.items ≡ remove old c.args.i = search rules in
    let numbers : c.remove.new.self.items ≡ remove c.self.inside.numbers.items c.args.i
    = search (rules, within) in
    let fewer : length c.remove-2.new.self.items ≡ length (remove old c.args.i)
    = ap (λ (l : List SentFrame). length l) frames in
    let more : length c.push_reserved.new.self.items ≡ length c.self.inside.free.items + 1
    = ap (λ (l : List SentFrame). length l) c.push_reserved.ensures.items
    ∙ length-append c.self.inside.free.items (c.unwrap-place.result ∷ []) in
    let less : length (remove old c.args.i) + 1 ≡ length old = length-remove old c.args.i inside in
    let sum : length old + length c.self.inside.free.items ≡ 64 = c.self.invariant.5 in (
      search rules,
      search rules,
      search rules,
      numbers ∙ ap (λ (ns : List ℕ). remove ns c.args.i) c.self.invariant.3
          ∙ remove-map number_of c.args.i old ∙ ap (map number_of) (sym frames),
      search rules,
      omega (arith, fewer, more, less, sum),
      subst (λ (ns : List ℕ). All (λ (n : ℕ). is_seen c.self.inside.seen n ≡ true) ns) (sym numbers)
          (All-remove (λ (n : ℕ). is_seen c.self.inside.seen n ≡ true) c.self.inside.numbers.items c.args.i
          c.self.invariant.6),
    )
