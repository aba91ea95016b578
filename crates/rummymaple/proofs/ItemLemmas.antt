-- What is known of an item that is taken.
use Rattle.std.proofs.Common.{◌≡◌, ◌≤◌, ◌+◌, ℕ, Bool, true, false, cond, not, Option, None, Some, arith}
use Rattle.std.proofs.Common.{nat_lt, nat_eq, sym, refl, ap, ◌∙◌}
use Rattle.ec_wire.specs.declared.kind.Kind.{Kind}
use Rattle.ec_map.specs.Item.{is_in_range}
use Rattle.std.proofs.lemmas.Bool.Decides.{nat_tests}
use Rattle.rummymaple.specs.Items.{kind_of, kind_named, refusal_of, refusal}
use Rattle.rummymaple.specs.declared.item.Item.{Item}
use Rattle.rummymaple.specs.declared.numbers.Code.{Code}
use Rattle.rummymaple.specs.declared.numbers.Code.TheVariants.{BadLength, BadRange, BadPlace}

pub record Taken (size : ℕ) (i : Item) : Type 0 where
  pub kind : kind_of i.kind ≡ Some (kind_named i.kind)
  pub some : 1 ≤ i.length
  pub most : i.length ≤ 1486
  pub range : is_in_range (kind_named i.kind) i.address i.length ≡ true
  pub place : i.offset + i.length ≤ size

-- of a first test and others none holds
not_first : {A : Type 0} (b : Bool) (x : A) (o : Option A) → cond b (Some x) o ≡ None
    → (b ≡ false) × (o ≡ None)
not_first true x o h = absurd (cc)
not_first false x o h = (refl, h)

taken_of : (size : ℕ) (i : Item) (o : Option Kind) → kind_of i.kind ≡ o → refusal_of size i o ≡ None
    → Taken size i
taken_of size i None e h = absurd (cc)
taken_of size i (Some kind) e h =
    let in_place : Option Code = cond (nat_lt size (i.offset + i.length)) (Some BadPlace) None in
    let in_range : Option Code = cond (not (is_in_range kind i.address i.length)) (Some BadRange) in_place in
    let at_most : Option Code = cond (nat_lt 1486 i.length) (Some BadLength) in_range in
    let some = not_first (nat_eq i.length 0) BadLength at_most h in
    let most = not_first (nat_lt 1486 i.length) BadLength in_range some.1 in
    let range = not_first (not (is_in_range kind i.address i.length)) BadRange in_place most.1 in
    let place = not_first (nat_lt size (i.offset + i.length)) BadPlace None range.1 in
    let named : kind_named i.kind ≡ kind = rw e refl in
    let ranged : is_in_range kind i.address i.length ≡ true = grind (arith, nat_tests, range.0) in
    record {
      kind = e ∙ ap Some (sym named);
      some = grind (arith, nat_tests, some.0);
      most = grind (arith, nat_tests, most.0);
      range = rw named ranged;
      place = grind (arith, nat_tests, place.0);
    }

pub taken : (size : ℕ) (i : Item) → refusal size i ≡ None → Taken size i
unfolding refusal
taken size i h = taken_of size i (kind_of i.kind) refl h
