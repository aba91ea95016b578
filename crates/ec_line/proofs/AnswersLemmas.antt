-- The laws of answers: nobody, one, one after the other, joined copies, other members, and at most one
-- answer.
use Rattle.std.specs.Prelude.{max, ◌↔◌}
use Rattle.std.proofs.Common.{◌≡◌, ℕ, ◌+◌, ◌%◌, ◌<◌, List, [], ◌∷◌, ◌++◌, Option}
use Rattle.std.proofs.Common.{None, Some, sym, ◌∙◌, refl, arith}
use Rattle.std.specs.List.{AllByRecursion, Contains}
use Rattle.std.proofs.lemmas.List.Elements.{All-contains, All-contains_itself, All-weaker, All-from_recursion}
use Rattle.std.proofs.lemmas.List.Elements.{recursion_from_All}
use Rattle.ec_regs.proofs.Laws.{each-append, each-front, each-back, each-map}
use Rattle.ec_line.specs.Answers.{Meets, Answers, Agree, AllAgree}

-- ---- the value of a bit that is claimed

-- the value claimed for a bit, if one is
pub meets_value : (value claimed : ℕ) (o : Option ℕ) → o ≡ Some claimed → Meets value o → value ≡ claimed
meets_value value claimed o e meets =
    let P : Option ℕ → Type 0 = λ c. c ≡ Some claimed → Meets value c → value ≡ claimed in
    elim o as P [ None ↦ λ no _. absurd (cc) | Some v ↦ λ is m. let same : v ≡ claimed = cc in m ∙ same ] e
    meets

-- the bit is the claimed one where it is so
pub value_meets : (value : ℕ) (o : Option ℕ) → ((v : ℕ) → o ≡ Some v → value ≡ v) → Meets value o
value_meets value None h = tt
value_meets value (Some v) h = h v refl

-- a bit with an equal value meets the same claim
pub meets_same : (value other : ℕ) (o : Option ℕ) → other ≡ value → Meets value o → Meets other o
meets_same value other None e meets = tt
meets_same value other (Some v) e meets = e ∙ meets

-- ---- who claims a bit

-- nobody does, or somebody claims it for a value: then it has that value in each answer, and members of any
-- set that agrees claim it for no other
pub data Claimed {S : Type 0} (claim : S → ℕ → Option ℕ) (xs : List S) (i : ℕ) : Type 0 where
  nobody_claims : AllByRecursion (λ x. claim x i ≡ None) xs → Claimed claim xs i
  somebody_claims : (v : ℕ) → ((g : ℕ) → AllByRecursion (λ x. Meets g (claim x i)) xs → g ≡ v)
      → ((ys : List S) → AllAgree claim xs ys → AllByRecursion (λ y. Meets v (claim y i)) ys)
      → Claimed claim xs i

pub claimed_by : {S : Type 0} (claim : S → ℕ → Option ℕ) (xs : List S) (i : ℕ) → Claimed claim xs i
claimed_by claim [] i = nobody_claims tt
claimed_by {S} claim (x ∷ xs) i =
    let P : Option ℕ → Type 0 = λ o. claim x i ≡ o → Claimed claim (x ∷ xs) i in
    elim (claim x i) as P [
      | None ↦ λ none. elim (claimed_by claim xs i) [
        | nobody_claims all ↦ nobody_claims (none, all)
        | somebody_claims v value agreed ↦
            somebody_claims v (λ g all. value g all.1) (λ ys agree. agreed ys agree.1)
      ]
      | Some v ↦ λ is. somebody_claims v (λ g all. meets_value g v (claim x i) is all.0)
          (λ ys agree.
          each-map (λ y. Agree claim x y) (λ y. Meets v (claim y i)) ys
          (λ y same. value_meets v (claim y i) (λ w yw. same i v w is yw)) agree.0)
    ] refl

-- ---- the laws

-- nobody answers with what was sent
pub answers_nobody : {S : Type 0} (claim : S → ℕ → Option ℕ) (sent : ℕ → ℕ) → Answers claim [] sent sent
answers_nobody claim sent = record { claimed = λ i. tt; rest = λ i none. refl }

-- one after the other: the answer of both
pub answers_then : {S : Type 0} (claim : S → ℕ → Option ℕ) (xs ys : List S) (sent between got : ℕ → ℕ)
    → AllAgree claim ys xs → Answers claim xs sent between → Answers claim ys between got
    → Answers claim (xs ++ ys) sent got
answers_then claim xs ys sent between got agree first second = record {
  claimed = λ i.
      each-append (λ x. Meets (got i) (claim x i)) xs ys
      (elim (claimed_by claim ys i) [
        | nobody_claims none ↦
            each-map (λ x. Meets (between i) (claim x i)) (λ x. Meets (got i) (claim x i)) xs
            (λ x meets. meets_same (between i) (got i) (claim x i) (second.rest i none) meets)
            (first.claimed i)
        | somebody_claims v value agreed ↦
            each-map (λ x. Meets v (claim x i)) (λ x. Meets (got i) (claim x i)) xs
            (λ x meets. meets_same v (got i) (claim x i) (value (got i) (second.claimed i)) meets)
            (agreed xs agree)
      ])
      (second.claimed i);
  rest = λ i none.
      second.rest i (each-back (λ x. claim x i ≡ None) xs ys none)
      ∙ first.rest i (each-front (λ x. claim x i ≡ None) xs ys none);
}

-- bits of two copies joined: what differs from the sent one in some copy does in the joined one
abbrev pub joined_at : ℕ → ℕ → ℕ → ℕ
joined_at s a b = (s + max ((a + s) % 2) ((b + s) % 2)) % 2

-- copies joined: the answer of both sets
pub answers_joined : {S : Type 0} (claim : S → ℕ → Option ℕ) (xs ys : List S) (sent a b got : ℕ → ℕ)
    → AllAgree claim xs ys → AllAgree claim ys xs → ((i : ℕ) → sent i < 2) → ((i : ℕ) → a i < 2)
    → ((i : ℕ) → b i < 2)
    → ((i : ℕ) → got i ≡ joined_at (sent i) (a i) (b i)) → Answers claim xs sent a → Answers claim ys sent b
    → Answers claim (xs ++ ys) sent got
answers_joined claim xs ys sent a b got agree back s_bit a_bit b_bit joined first second =
    let s = s_bit in
    record {
      claimed = λ i.
          let s2 = s_bit i in
          let a2 = a_bit i in
          let b2 = b_bit i in
          let g : got i ≡ joined_at (sent i) (a i) (b i) = joined i in
          elim (claimed_by claim xs i) [
            | nobody_claims x_none ↦
                let a_is : a i ≡ sent i = first.rest i x_none in
                let g_is : got i ≡ b i = omega arith in
                each-append (λ x. Meets (got i) (claim x i)) xs ys
                (each-map (λ x. claim x i ≡ None) (λ x. Meets (got i) (claim x i)) xs
                (λ x none. value_meets (got i) (claim x i)
                (λ v some. absurd (let no : None ≡ Some v = sym none ∙ some in cc))) x_none)
                (each-map (λ y. Meets (b i) (claim y i)) (λ y. Meets (got i) (claim y i)) ys
                (λ y meets. meets_same (b i) (got i) (claim y i) g_is meets) (second.claimed i))
            | somebody_claims v value agreed ↦
                let a_is : a i ≡ v = value (a i) (first.claimed i) in
                elim (claimed_by claim ys i) [
                  | nobody_claims y_none ↦
                      let b_is : b i ≡ sent i = second.rest i y_none in
                      let g_is : got i ≡ a i = omega arith in
                      each-append (λ x. Meets (got i) (claim x i)) xs ys
                      (each-map (λ x. Meets (a i) (claim x i)) (λ x. Meets (got i) (claim x i)) xs
                      (λ x meets. meets_same (a i) (got i) (claim x i) g_is meets) (first.claimed i))
                      (each-map (λ y. claim y i ≡ None) (λ y. Meets (got i) (claim y i)) ys
                      (λ y none. value_meets (got i) (claim y i)
                      (λ w some. absurd (let no : None ≡ Some w = sym none ∙ some in cc))) y_none)
                  | somebody_claims w y_value y_agreed ↦
                      let same : b i ≡ v =
                      y_value (b i) (second.claimed i) ∙ sym (y_value v (agreed ys agree)) in
                      let g_is : got i ≡ a i = omega arith in
                      let g_b : got i ≡ b i = omega arith in
                      each-append (λ x. Meets (got i) (claim x i)) xs ys
                      (each-map (λ x. Meets (a i) (claim x i)) (λ x. Meets (got i) (claim x i)) xs
                      (λ x meets. meets_same (a i) (got i) (claim x i) g_is meets) (first.claimed i))
                      (each-map (λ y. Meets (b i) (claim y i)) (λ y. Meets (got i) (claim y i)) ys
                      (λ y meets. meets_same (b i) (got i) (claim y i) g_b meets) (second.claimed i))
                ]
          ];
      rest = λ i none.
          let s2 = s_bit i in
          let a_is : a i ≡ sent i = first.rest i (each-front (λ x. claim x i ≡ None) xs ys none) in
          let b_is : b i ≡ sent i = second.rest i (each-back (λ x. claim x i ≡ None) xs ys none) in
          let g : got i ≡ joined_at (sent i) (a i) (b i) = joined i in
          omega arith;
    }

-- there is at most one answer
pub answers_once : {S : Type 0} (claim : S → ℕ → Option ℕ) (xs : List S) (sent got other : ℕ → ℕ)
    → Answers claim xs sent got
    → Answers claim xs sent other → (i : ℕ) → got i ≡ other i
answers_once claim xs sent got other first second i =
    elim (claimed_by claim xs i) [
      | nobody_claims none ↦ first.rest i none ∙ sym (second.rest i none)
      | somebody_claims v value agreed ↦ value (got i) (first.claimed i)
          ∙ sym (value (other i) (second.claimed i))
    ]

-- members that claim nothing may be left out, or put in: what holds of each that claims in one set holds in
-- the other
pub record SameClaims {S : Type 0} (claim : S → ℕ → Option ℕ) (xs ys : List S) : Type 0 where
  pub meets : (i g : ℕ) → AllByRecursion (λ x. Meets g (claim x i)) xs
      → AllByRecursion (λ y. Meets g (claim y i)) ys
  pub silent : (i : ℕ) → AllByRecursion (λ y. claim y i ≡ None) ys → AllByRecursion (λ x. claim x i ≡ None) xs

pub answers_same : {S : Type 0} (claim : S → ℕ → Option ℕ) (xs ys : List S) (sent got : ℕ → ℕ)
    → SameClaims claim xs ys
    → Answers claim xs sent got → Answers claim ys sent got
answers_same claim xs ys sent got same answer = record {
  claimed = λ i. same.meets i (got i) (answer.claimed i);
  rest = λ i none. answer.rest i (same.silent i none);
}

-- what holds of each of some holds of each of others that are among them
each_among : {S : Type 0} (P : S → Type 0) (xs ys : List S) → ((c : S) → Contains ys c → Contains xs c)
    → AllByRecursion P xs → AllByRecursion P ys
each_among P xs ys among all =
    recursion_from_All P ys
    (All-weaker (Contains ys) P (λ c there. All-contains P xs c (All-from_recursion P xs all) (among c there))
    ys (All-contains_itself ys))

-- so sets with the same members answer the same
pub answers_same_members : {S : Type 0} (claim : S → ℕ → Option ℕ) (xs ys : List S) (sent got : ℕ → ℕ)
    → ((x : S) → Contains xs x ↔ Contains ys x) → Answers claim xs sent got → Answers claim ys sent got
answers_same_members claim xs ys sent got same answer =
    answers_same claim xs ys sent got (record {
      meets = λ i g all. each_among (λ x. Meets g (claim x i)) xs ys (λ x there. (same x).1 there) all;
      silent = λ i all. each_among (λ x. claim x i ≡ None) ys xs (λ x there. (same x).0 there) all;
    }) answer
