-- What is told of the sources of some packets becomes what is told of one more.
use Rattle.std.proofs.Common.{◌≡◌, ℕ, ◌+◌, ◌<◌, ◌≤◌, ◌&&◌, ◌||◌, Bool, true, false, cond, not, eqb, List}
use Rattle.std.proofs.Common.{[], ◌∷◌}
use Rattle.std.proofs.Common.{◌++◌, map, length, get_or, set, take, drop, All, refl, sym, ap, subst, ◌∙◌}
use Rattle.std.proofs.Common.{arith}
use Rattle.std.proofs.Common.{append_assoc, length-take-le}
use Rattle.std.specs.List.{list_any, refill}
use Rattle.std.proofs.lemmas.Bool.{true≢false}
use Rattle.std.proofs.lemmas.Bool.Decides.{nat_tests}
use Rattle.std.proofs.lemmas.List.{length-map, drop_more, get_or_at, set_at, take_at, map_more}
use Rattle.std.proofs.lemmas.List.Elements.{All-map, All-nil, All-push}
use Rattle.std.proofs.lemmas.List.Folds.{list_any-append, list_any_at}
use Rattle.ecat_trips.specs.declared.packet.Source.{Source}
use Rattle.ecat_trips.specs.declared.bases.Base.{Base}
use Rattle.ecat_trips.specs.declared.bases.TheConstants.{MAX_BASES}
use Rattle.ecat_trips.specs.Bases.{AreBasesOf, is_source, occurs, is_of, noted}

-- ---- going through a list

-- one element more of a list whose first elements are mapped: its own image is written at its place
pub set_mapped : {X : Type 0} (f : X → X) (es ms : List X) (i : ℕ) (d : X) → i < length es
    → ms ≡ map f (take i es) ++ drop i es
    → set ms i (f (get_or ms i d)) ≡ map f (take (i + 1) es) ++ drop (i + 1) es
set_mapped {X} f es ms i d inside so_far =
    let e : X = get_or es i d in
    let front : length (map f (take i es)) ≡ i =
    length-map (take i es) f ∙ length-take-le i es (omega arith) in
    let split : ms ≡ map f (take i es) ++ e ∷ drop (i + 1) es =
    so_far ∙ ap (λ xs. map f (take i es) ++ xs) (drop_more es i d inside) in
    let here : get_or ms i d ≡ e =
    ap (λ xs. get_or xs i d) split ∙ get_or_at (map f (take i es)) e (drop (i + 1) es) d i front in
    let written : set ms i (f e) ≡ map f (take i es) ++ f e ∷ drop (i + 1) es =
    ap (λ xs. set xs i (f e)) split ∙ set_at (map f (take i es)) e (drop (i + 1) es) (f e) i front in
    let one_more : map f (take (i + 1) es) ≡ map f (take i es) ++ f e ∷ [] = map_more f es i d inside in
    let joined : map f (take (i + 1) es) ++ drop (i + 1) es ≡ map f (take i es) ++ f e ∷ drop (i + 1) es =
    ap (λ xs. xs ++ drop (i + 1) es) one_more
    ∙ append_assoc (map f (take i es)) (f e ∷ []) (drop (i + 1) es) in
    ap (λ x. set ms i (f x)) here ∙ written ∙ sym joined

-- a list that is refilled by mapped elements of its own is the mapped list
pub refill-map : {X : Type 0} (f : X → X) (es : List X) → refill (length es) es (map f es) ≡ map f es
refill-map f es = take_at (map f es) (drop (length (map f es)) es) (length es) (length-map es f)

-- where no element passes, each fails
none_passes : {X : Type 0} (p : X → Bool) (xs : List X) → list_any p xs ≡ false → All (λ x. p x ≡ false) xs
none_passes p xs none = λ k d inside. by (p (get_or xs k d)) k d inside refl
  where
    by : (b : Bool) (k : ℕ) (d : _) → k < length xs → p (get_or xs k d) ≡ b → p (get_or xs k d) ≡ false
    by true k d inside e = absurd (true≢false (sym (list_any_at p xs k d inside e) ∙ none))
    by false k d inside e = e

-- ---- one source more

or-false : (b : Bool) → (b || false) ≡ b
or-false true = refl
or-false false = refl

pub occurs-push : (base : ℕ) (marked : Bool) (all : List Source) (s : Source)
    → occurs base marked (all ++ s ∷ []) ≡ (occurs base marked all || is_source base marked s)
unfolding occurs
occurs-push base marked all s =
    list_any-append (is_source base marked) all (s ∷ [])
    ∙ ap (λ b. list_any (is_source base marked) all || b) (or-false (is_source base marked s))

-- a source of another base changes nothing
occurs-other : (base : ℕ) (marked : Bool) (all : List Source) (s : Source) → eqb base s.base ≡ false
    → occurs base marked (all ++ s ∷ []) ≡ occurs base marked all
occurs-other base marked all s e =
    occurs-push base marked all s
    ∙ ap (λ b. occurs base marked all || (b && cond marked s.marked (not s.marked))) e
    ∙ or-false (occurs base marked all)

-- one of this base
occurs-own : (base : ℕ) (marked : Bool) (all : List Source) (s : Source) → eqb base s.base ≡ true
    → occurs base marked (all ++ s ∷ []) ≡ (occurs base marked all || cond marked s.marked (not s.marked))
occurs-own base marked all s e =
    occurs-push base marked all s
    ∙ ap (λ b. occurs base marked all || (b && cond marked s.marked (not s.marked))) e

noted_base : (s : Source) (e : Base) → (noted s e).base ≡ e.base
noted_base s e = by (eqb e.base s.base) refl
  where
    by : (b : Bool) → eqb e.base s.base ≡ b → (noted s e).base ≡ e.base
    by true h = rw h refl
    by false h = rw h refl

noted_plain : (all : List Source) (s : Source) (e : Base) → e.plain ≡ occurs e.base false all
    → (noted s e).plain ≡ occurs (noted s e).base false (all ++ s ∷ [])
noted_plain all s e was = by (eqb e.base s.base) refl
  where
    by : (b : Bool) → eqb e.base s.base ≡ b
        → (noted s e).plain ≡ occurs (noted s e).base false (all ++ s ∷ [])
    by true h = rw h (ap (λ b. b || not s.marked) was ∙ sym (occurs-own e.base false all s h))
    by false h = rw h (was ∙ sym (occurs-other e.base false all s h))

noted_marked : (all : List Source) (s : Source) (e : Base) → e.marked ≡ occurs e.base true all
    → (noted s e).marked ≡ occurs (noted s e).base true (all ++ s ∷ [])
noted_marked all s e was = by (eqb e.base s.base) refl
  where
    by : (b : Bool) → eqb e.base s.base ≡ b
        → (noted s e).marked ≡ occurs (noted s e).base true (all ++ s ∷ [])
    by true h = rw h (ap (λ b. b || s.marked) was ∙ sym (occurs-own e.base true all s h))
    by false h = rw h (was ∙ sym (occurs-other e.base true all s h))

-- the entries of bases stay so
noted_any : (s : Source) (base : ℕ) (bases : List Base)
    → list_any (is_of base) (map (noted s) bases) ≡ list_any (is_of base) bases
noted_any s base [] = refl
noted_any s base (e ∷ es) =
    ap (λ b. eqb b base || list_any (is_of base) (map (noted s) es)) (noted_base s e)
    ∙ ap (λ b. eqb e.base base || b) (noted_any s base es)

-- what occurs with one more did before, or is of its base
splits : (base : ℕ) (marked : Bool) (all : List Source) (s : Source) (P : Type 0)
    → occurs base marked (all ++ s ∷ []) ≡ true → (occurs base marked all ≡ true → P)
    → (base ≡ s.base → P) → P
splits base marked all s P there before own = by (eqb base s.base) refl
  where
    by : (b : Bool) → eqb base s.base ≡ b → P
    by true e = own (grind (arith, nat_tests, e))
    by false e = before (sym (occurs-other base marked all s e) ∙ there)

module _ (all : List Source) (s : Source) (bases : List Base) (h : AreBasesOf all bases) where
  abbrev later : List Source
  later = all ++ s ∷ []

  -- of a base that is told
  pub told_again : list_any (is_of s.base) bases ≡ true → AreBasesOf later (map (noted s) bases)
  told_again has = record {
    plain = All-map (λ (e : Base). e.plain ≡ occurs e.base false later) (noted s) bases
        (λ k d inside. noted_plain all s (get_or bases k d) (h.plain k d inside));
    marked = All-map (λ (e : Base). e.marked ≡ occurs e.base true later) (noted s) bases
        (λ k d inside. noted_marked all s (get_or bases k d) (h.marked k d inside));
    each = λ less base marked there.
        noted_any s base bases
        ∙ splits base marked all s (list_any (is_of base) bases ≡ true) there
        (h.each (subst (λ n. n < MAX_BASES) (length-map bases (noted s)) less) base marked)
        (λ e. ap (λ b. list_any (is_of b) bases) e ∙ has);
  }

  -- the entries of other bases stay
  others_plain : list_any (is_of s.base) bases ≡ false
      → All (λ (e : Base). e.plain ≡ occurs e.base false later) bases
  others_plain none = λ k d inside.
      h.plain k d inside
      ∙ sym
      (occurs-other (get_or bases k d).base false all s (none_passes (is_of s.base) bases none k d inside))

  others_marked : list_any (is_of s.base) bases ≡ false
      → All (λ (e : Base). e.marked ≡ occurs e.base true later) bases
  others_marked none = λ k d inside.
      h.marked k d inside
      ∙ sym
      (occurs-other (get_or bases k d).base true all s (none_passes (is_of s.base) bases none k d inside))

  -- of a base that is not told, and there is no room for it
  pub told_full : list_any (is_of s.base) bases ≡ false → MAX_BASES ≤ length bases → AreBasesOf later bases
  told_full none full = record {
    plain = others_plain none;
    marked = others_marked none;
    each = λ less base marked there. absurd (omega arith);
  }

  -- of a base that is not told yet
  abbrev entry : Base
  entry = record { base = s.base; plain = not s.marked; marked = s.marked }

  not_yet : list_any (is_of s.base) bases ≡ false → length bases < MAX_BASES → (marked : Bool)
      → occurs s.base marked all ≡ false
  not_yet none less marked = by (occurs s.base marked all) refl
    where
      by : (b : Bool) → occurs s.base marked all ≡ b → occurs s.base marked all ≡ false
      by true e = absurd (true≢false (sym (h.each less s.base marked e) ∙ none))
      by false e = e

  own : (n : ℕ) → eqb n n ≡ true
  own n = grind (arith, nat_tests)

  pub told_new : list_any (is_of s.base) bases ≡ false → length bases < MAX_BASES
      → AreBasesOf later (bases ++ entry ∷ [])
  told_new none less = record {
    plain = All-push (λ (e : Base). e.plain ≡ occurs e.base false later) bases entry (others_plain none)
        (sym (occurs-own s.base false all s (own s.base)
        ∙ ap (λ b. b || not s.marked) (not_yet none less false)));
    marked = All-push (λ (e : Base). e.marked ≡ occurs e.base true later) bases entry (others_marked none)
        (sym (occurs-own s.base true all s (own s.base) ∙ ap (λ b. b || s.marked) (not_yet none less true)));
    each = λ _ base marked there.
        list_any-append (is_of base) bases (entry ∷ [])
        ∙ splits base marked all s
        ((list_any (is_of base) bases || (eqb s.base base || false)) ≡ true) there
        (λ e. ap (λ b. b || (eqb s.base base || false)) (h.each less base marked e))
        (λ e. ap (λ b. list_any (is_of base) bases || (b || false)) (ap (eqb s.base) e ∙ own s.base)
        ∙ or-true (list_any (is_of base) bases));
  }
    where
      or-true : (b : Bool) → (b || true) ≡ true
      or-true true = refl
      or-true false = refl

-- of no packet nothing is told
pub told_nothing : AreBasesOf [] []
unfolding occurs
told_nothing = record {
  plain = All-nil (λ (e : Base). e.plain ≡ occurs e.base false []);
  marked = All-nil (λ (e : Base). e.marked ≡ occurs e.base true []);
  each = λ _ base marked there. absurd (true≢false (sym there));
}
