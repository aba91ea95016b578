-- An object that is being written stays one with each member, and its line is read as it.
use Rattle.std.proofs.Common.{◌≡◌, ℕ, ℤ, pos, negsuc, ◌≤◌, ◌<◌, ◌^◌, List, [], ◌∷◌, ◌++◌, Some, option_map, option_and_then, decimal, FitsSigned, w64, refl, sym, ap, ◌∙◌, subst, arith, append_assoc, append-nil}
use Rattle.std.specs.Fmt.{signed_decimal}
use Rattle.json.specs.Token as token
use Rattle.json.specs.Token.{Token}
use Rattle.json.specs.Lex.{tokens}
use Rattle.json.specs.Json as json
use Rattle.json.specs.Json.{Json, Items, no_items, item, Members, no_members, member, if_last, document}
use Rattle.json.specs.Print.{print}
use Rattle.json.specs.Tree.{json_tokens, depth}
use Rattle.json.proofs.Printed.Trees.{value-json_tokens}
use Rattle.serde_json.specs.Data as value
use Rattle.serde_json.specs.Data.{Data, put}
use Rattle.serde_json.specs.Read.{of_json}
use Rattle.ecat_json.specs.Members.{then, then_item, listed, opened, opened_list, with}
use Rattle.ecat_json.specs.Lines.{AreFlat, AreSingle, IsOpen, IsOpenList, IsLine}
use Rattle.serde_json.proofs.Numbers.{number_of-decimal, number_of-negative}
use Rattle.ecat_json.proofs.Adding.{named-then, listed-then_item, named-closed, listed-closed, members_depth-then, items_depth-then_item, of_members-then, of_items-then_item, value_then}

pub opens : IsOpen (opened no_members)
opens = record { members = no_members; flat = record { shallow = omega arith; found = value.no_members; each = refl }; spelt = refl }

pub flat-then : (ms : Members) (k : List ℕ) (j : Json) (d : Data) → depth j ≤ 1 → of_json j ≡ Some d → AreFlat ms → AreFlat (then ms k j)
flat-then ms k j d low one h = record {
  shallow = members_depth-then ms k j 1 h.shallow low;
  found = put k d h.found;
  each = of_members-then ms k j h.found d one value.no_members h.each;
}

pub with_member : (written : List Token) (k : List ℕ) (j : Json) (d : Data) → depth j ≤ 1 → of_json j ≡ Some d → IsOpen written → IsOpen (with written k j)
with_member written k j d low one h = record {
  members = then h.members k j;
  flat = flat-then h.members k j d low one h.flat;
  spelt = ap (λ ts. ts ++ token.key k ∷ json_tokens j) h.spelt ∙ ap (λ ts. token.begin_object ∷ ts) (sym (named-then h.members k j));
}

pub with_list : (written : List Token) (k : List ℕ) → IsOpen written → IsOpenList (written ++ token.key k ∷ token.begin_array ∷ [])
with_list written k h = record {
  members = h.members;
  flat = h.flat;
  name = k;
  items = no_items;
  single = record { shallow = omega arith; found = value.no_items; each = refl };
  spelt = ap (λ ts. ts ++ token.key k ∷ token.begin_array ∷ []) h.spelt;
}

pub single-then : (js : Items) (j : Json) (d : Data) → depth j ≤ 0 → of_json j ≡ Some d → AreSingle js → AreSingle (then_item js j)
single-then js j d low one h = record {
  shallow = items_depth-then_item js j 0 h.shallow low;
  found = value_then h.found d;
  each = of_items-then_item js j d one h.found h.each;
}

list_then : (ms : Members) (k : List ℕ) (js : Items) (j : Json) → opened_list ms k js ++ json_tokens j ≡ opened_list ms k (then_item js j)
list_then ms k js j =
    append_assoc (opened ms) (token.key k ∷ token.begin_array ∷ listed js) (json_tokens j)
    ∙ ap (λ ts. opened ms ++ token.key k ∷ token.begin_array ∷ ts) (sym (listed-then_item js j))

pub with_item : (written : List Token) (j : Json) (d : Data) → depth j ≤ 0 → of_json j ≡ Some d → IsOpenList written → IsOpenList (written ++ json_tokens j)
with_item written j d low one h = record {
  members = h.members;
  flat = h.flat;
  name = h.name;
  items = then_item h.items j;
  single = single-then h.items j d low one h.single;
  spelt = ap (λ ts. ts ++ json_tokens j) h.spelt ∙ list_then h.members h.name h.items j;
}

list_ends : (ms : Members) (k : List ℕ) (js : Items) → opened_list ms k js ++ token.end_array ∷ [] ≡ opened (then ms k (json.array js))
list_ends ms k js =
    append_assoc (opened ms) (token.key k ∷ token.begin_array ∷ listed js) (token.end_array ∷ [])
    ∙ ap (λ ts. opened ms ++ token.key k ∷ token.begin_array ∷ ts) (listed-closed js)
    ∙ ap (λ ts. token.begin_object ∷ ts) (sym (named-then ms k (json.array js)))

pub without_list : (written : List Token) → IsOpenList written → IsOpen (written ++ token.end_array ∷ [])
without_list written h = record {
  members = then h.members h.name (json.array h.items);
  flat = flat-then h.members h.name (json.array h.items) (value.array h.single.found) (omega (arith, h.single.shallow)) (rw h.single.each refl) h.flat;
  spelt = ap (λ ts. ts ++ token.end_array ∷ []) h.spelt ∙ list_ends h.members h.name h.items;
}

closed : (ms : Members) → opened ms ++ token.end_object ∷ [] ≡ json_tokens (json.object ms)
closed ms = ap (λ ts. token.begin_object ∷ ts) (named-closed ms)

pub reads : (written : List Token) (line : List ℕ) → IsOpen written
    → tokens (print (written ++ token.end_object ∷ [])) ≡ written ++ token.end_object ∷ []
    → line ≡ print (written ++ token.end_object ∷ []) ++ 10 ∷ [] → IsLine line written
reads written line h back ends =
    let whole = ap (λ ts. ts ++ token.end_object ∷ []) h.spelt ∙ closed h.members in
    let text = print (written ++ token.end_object ∷ []) in
    let same : tokens text ≡ json_tokens (json.object h.members) ++ [] = back ∙ whole ∙ sym (append-nil (json_tokens (json.object h.members))) in
    record {
      members = h.members;
      spelt = h.spelt;
      text = text;
      ends = ends;
      is_object =
          ap (λ ts. option_and_then (λ p. if_last p.0 p.1) (json.value 128 ts)) same
          ∙ ap (option_and_then (λ p. if_last p.0 p.1)) (value-json_tokens (json.object h.members) 128 [] (omega (arith, h.flat.shallow)));
      found = h.flat.found;
      each = h.flat.each;
      is_read =
          ap (λ ts. option_and_then of_json (option_and_then (λ p. if_last p.0 p.1) (json.value 127 ts))) same
          ∙ ap (λ o. option_and_then of_json (option_and_then (λ p. if_last p.0 p.1) o)) (value-json_tokens (json.object h.members) 127 [] (omega (arith, h.flat.shallow)))
          ∙ rw h.flat.each refl;
    }

-- ---- steps of the writer

pub member_added : (old mid new : List Token) (k : List ℕ) (j : Json) (d : Data) → depth j ≤ 1 → of_json j ≡ Some d → IsOpen old
    → mid ≡ old ++ token.key k ∷ [] → new ≡ mid ++ json_tokens j → IsOpen new
member_added old mid new k j d low one h first second =
    subst IsOpen (sym (second ∙ ap (λ ts. ts ++ json_tokens j) first ∙ append_assoc old (token.key k ∷ []) (json_tokens j))) (with_member old k j d low one h)

pub list_added : (old mid new : List Token) (k : List ℕ) → IsOpen old
    → mid ≡ old ++ token.key k ∷ [] → new ≡ mid ++ token.begin_array ∷ [] → IsOpenList new
list_added old mid new k h first second =
    subst IsOpenList (sym (second ∙ ap (λ ts. ts ++ token.begin_array ∷ []) first ∙ append_assoc old (token.key k ∷ []) (token.begin_array ∷ []))) (with_list old k h)

pub item_added : (old new : List Token) (j : Json) (d : Data) → depth j ≤ 0 → of_json j ≡ Some d → IsOpenList old → new ≡ old ++ json_tokens j → IsOpenList new
item_added old new j d low one h step = subst IsOpenList (sym step) (with_item old j d low one h)

pub list_closed : (old new : List Token) → IsOpenList old → new ≡ old ++ token.end_array ∷ [] → IsOpen new
list_closed old new h step = subst IsOpen (sym step) (without_list old h)

pub line_made : (old whole : List Token) (text line : List ℕ) → IsOpen old → whole ≡ old ++ token.end_object ∷ []
    → tokens (print whole) ≡ whole → text ≡ print whole → line ≡ text ++ 10 ∷ [] → IsLine line old
line_made old whole text line h step back printed ends =
    reads old line h (subst (λ ts. tokens (print ts) ≡ ts) step back) (ends ∙ ap (λ xs. xs ++ 10 ∷ []) (printed ∙ ap print step))

-- ---- numbers

pub of_unsigned : (n : ℕ) → n < 2 ^ 64 → of_json (json.number (decimal n)) ≡ Some (value.number (value.unsigned n))
of_unsigned n h = ap (option_map value.number) (number_of-decimal n h)

pub of_negative : (n : ℕ) → n < 2 ^ 63 → of_json (json.number (signed_decimal (negsuc n))) ≡ Some (value.number (value.negative (negsuc n)))
of_negative n h = ap (option_map value.number) (number_of-negative n h)

pub signed_added : (old mid new : List Token) (k : List ℕ) (z : ℤ) → FitsSigned w64 z → IsOpen old
    → mid ≡ old ++ token.key k ∷ [] → new ≡ mid ++ token.number (signed_decimal z) ∷ [] → IsOpen new
signed_added old mid new k (pos n) fits h first second =
    member_added old mid new k (json.number (decimal n)) _ (omega arith) (of_unsigned n (omega (arith, fits))) h first second
signed_added old mid new k (negsuc n) fits h first second =
    member_added old mid new k (json.number (signed_decimal (negsuc n))) _ (omega arith) (of_negative n (omega (arith, fits))) h first second

pub signed_item_added : (old new : List Token) (z : ℤ) → FitsSigned w64 z → IsOpenList old
    → new ≡ old ++ token.number (signed_decimal z) ∷ [] → IsOpenList new
signed_item_added old new (pos n) fits h step =
    item_added old new (json.number (decimal n)) _ (omega arith) (of_unsigned n (omega (arith, fits))) h step
signed_item_added old new (negsuc n) fits h step =
    item_added old new (json.number (signed_decimal (negsuc n))) _ (omega arith) (of_negative n (omega (arith, fits))) h step
