-- What is added stands behind what was there: as it is spelt, and as it is read.
use Rattle.std.proofs.Common.{◌≡◌, ℕ, ◌≤◌, List, [], ◌∷◌, ◌++◌, Option, Some, None, option_and_then, option_map, refl, sym, ap, ◌∙◌, arith, append_assoc, append-nil}
use Rattle.json.specs.Token as token
use Rattle.json.specs.Json.{Json, Items, no_items, item, Members, no_members, member}
use Rattle.json.specs.Tree.{json_tokens, items_tokens, members_tokens, depth, items_depth, members_depth}
use Rattle.serde_json.specs.Data as value
use Rattle.serde_json.specs.Data.{Data, put}
use Rattle.serde_json.specs.Read.{of_json, of_items, of_members}
use Rattle.ecat_json.specs.Members.{then, then_item, named, listed}

-- ---- spelling

pub named-then : (ms : Members) (k : List ℕ) (j : Json) → named (then ms k j) ≡ named ms ++ token.key k ∷ json_tokens j
named-then no_members k j = ap (λ ts. token.key k ∷ ts) (append-nil (json_tokens j))
named-then (member l i rest) k j =
    ap (λ ts. token.key l ∷ (json_tokens i ++ ts)) (named-then rest k j)
    ∙ ap (λ ts. token.key l ∷ ts) (sym (append_assoc (json_tokens i) (named rest) (token.key k ∷ json_tokens j)))

pub listed-then_item : (js : Items) (j : Json) → listed (then_item js j) ≡ listed js ++ json_tokens j
listed-then_item no_items j = append-nil (json_tokens j)
listed-then_item (item i rest) j =
    ap (λ ts. json_tokens i ++ ts) (listed-then_item rest j)
    ∙ sym (append_assoc (json_tokens i) (listed rest) (json_tokens j))

pub named-closed : (ms : Members) → named ms ++ token.end_object ∷ [] ≡ members_tokens ms
named-closed no_members = refl
named-closed (member k j rest) =
    ap (λ ts. token.key k ∷ ts) (append_assoc (json_tokens j) (named rest) (token.end_object ∷ [])
    ∙ ap (λ ts. json_tokens j ++ ts) (named-closed rest))

pub listed-closed : (js : Items) → listed js ++ token.end_array ∷ [] ≡ items_tokens js
listed-closed no_items = refl
listed-closed (item j rest) =
    append_assoc (json_tokens j) (listed rest) (token.end_array ∷ [])
    ∙ ap (λ ts. json_tokens j ++ ts) (listed-closed rest)

-- ---- how deep

pub members_depth-then : (ms : Members) (k : List ℕ) (j : Json) (n : ℕ) → members_depth ms ≤ n → depth j ≤ n → members_depth (then ms k j) ≤ n
members_depth-then no_members k j n all one = omega arith
members_depth-then (member l i rest) k j n all one =
    let more = members_depth-then rest k j n (omega arith) one in
    omega arith

pub items_depth-then_item : (js : Items) (j : Json) (n : ℕ) → items_depth js ≤ n → depth j ≤ n → items_depth (then_item js j) ≤ n
items_depth-then_item no_items j n all one = omega arith
items_depth-then_item (item i rest) j n all one =
    let more = items_depth-then_item rest j n (omega arith) one in
    omega arith

-- ---- what is read

one_member_on : (rest : Members) (k l : List ℕ) (j : Json) (f g : value.Members) (d : Data) (o : Option Data)
    → ((h : value.Members) → of_members rest h ≡ Some g → of_members (then rest k j) h ≡ Some (put k d g))
    → option_and_then (λ e. of_members rest (put l e f)) o ≡ Some g
    → option_and_then (λ e. of_members (then rest k j) (put l e f)) o ≡ Some (put k d g)
one_member_on rest k l j f g d None again all = absurd cc
one_member_on rest k l j f g d (Some e) again all = again (put l e f) all

pub of_members-then : (ms : Members) (k : List ℕ) (j : Json) (g : value.Members) (d : Data) → of_json j ≡ Some d
    → (f : value.Members) → of_members ms f ≡ Some g → of_members (then ms k j) f ≡ Some (put k d g)
of_members-then no_members k j g d one f all = rw one (ap (option_map (put k d)) all)
of_members-then (member l i rest) k j g d one f all =
    one_member_on rest k l j f g d (of_json i) (of_members-then rest k j g d one) all

-- items, and one more behind them
abbrev pub value_then : value.Items → Data → value.Items
value_then value.no_items d = value.item d value.no_items
value_then (value.item e rest) d = value.item e (value_then rest d)

rest_of : (e d : Data) (more : Option value.Items) (ds : value.Items) (longer : Option value.Items)
    → ((es : value.Items) → more ≡ Some es → longer ≡ Some (value_then es d))
    → option_map (value.item e) more ≡ Some ds → option_map (value.item e) longer ≡ Some (value_then ds d)
rest_of e d None ds longer again all = absurd cc
rest_of e d (Some es) ds longer again all =
    ap (option_map (value.item e)) (again es refl) ∙ ap (option_map (λ xs. value_then xs d)) all

one_item_on : (rest : Items) (j : Json) (ds : value.Items) (d : Data) (o : Option Data)
    → ((es : value.Items) → of_items rest ≡ Some es → of_items (then_item rest j) ≡ Some (value_then es d))
    → option_and_then (λ e. option_map (value.item e) (of_items rest)) o ≡ Some ds
    → option_and_then (λ e. option_map (value.item e) (of_items (then_item rest j))) o ≡ Some (value_then ds d)
one_item_on rest j ds d None again all = absurd cc
one_item_on rest j ds d (Some e) again all = rest_of e d (of_items rest) ds (of_items (then_item rest j)) again all

pub of_items-then_item : (js : Items) (j : Json) (d : Data) → of_json j ≡ Some d → (ds : value.Items) → of_items js ≡ Some ds → of_items (then_item js j) ≡ Some (value_then ds d)
of_items-then_item no_items j d one ds all = rw one (ap (option_map (λ xs. value_then xs d)) all)
of_items-then_item (item i rest) j d one ds all = one_item_on rest j ds d (of_json i) (of_items-then_item rest j d one) all
