-- What spells a mail is bytes.
use Rattle.std.proofs.Common.{ℕ, zero, suc, ◌<◌, ◌≤◌, List, [], ◌∷◌, ◌++◌, replicate, arith}
use Rattle.std.specs.List.{AllByRecursion}
use Rattle.ec_regs.specs.Bits.{AreBytes}
use Rattle.ec_app.specs.Mail.{mail_bytes, sent}
use Rattle.ec_app.specs.Sdo.{no_data, sdo_bytes, spelt, value_bytes}
use Rattle.ec_app.specs.Value.{FitsValue}
use Rattle.ec_app.specs.declared.mail.Mail.{Mail}
use Rattle.ec_app.specs.declared.value.Value.{Value}
use Rattle.ec_app.specs.declared.value.Value.TheVariants.{One, Two, Four}

pub cons_bytes : (x : ℕ) (xs : List ℕ) → x < 256 → AreBytes xs → AreBytes (x ∷ xs)
cons_bytes x xs small rest zero = small
cons_bytes x xs small rest (suc k) = rest k

pub no_bytes : AreBytes []
no_bytes k = omega arith

pub zero_bytes : (n : ℕ) → AreBytes (replicate n 0)
zero_bytes zero k = omega arith
zero_bytes (suc n) zero = omega arith
zero_bytes (suc n) (suc k) = zero_bytes n k

pub append_bytes : (xs ys : List ℕ) → AreBytes xs → AreBytes ys → AreBytes (xs ++ ys)
append_bytes [] ys front back = back
append_bytes (x ∷ xs) ys front back =
    cons_bytes x (xs ++ ys) (front 0) (append_bytes xs ys (λ k. front (suc k)) back)

-- each element is a byte
abbrev pub AreSmall : List ℕ → Type 0
AreSmall xs = AllByRecursion (λ (x : ℕ). x < 256) xs

pub small_bytes : (xs : List ℕ) → AreSmall xs → AreBytes xs
small_bytes [] small = no_bytes
small_bytes (x ∷ xs) small = cons_bytes x xs small.0 (small_bytes xs small.1)

-- ---- an SDO

pub spelt_small : (command i j : ℕ) (payload : List ℕ) → command < 256 → j < 256 → AreSmall payload
    → AreSmall (spelt command i j payload)
spelt_small command i j payload small sub_small rest =
    (small, (omega arith, (omega arith, (sub_small, rest))))

pub no_data_small : AreSmall no_data
no_data_small = (omega arith, (omega arith, (omega arith, (omega arith, tt))))

pub value_bytes_small : (v : Value) → FitsValue v → AreSmall (value_bytes v)
value_bytes_small (One x) fits = (fits, (omega arith, (omega arith, (omega arith, tt))))
value_bytes_small (Two x) fits = (omega arith, (omega arith, (omega arith, (omega arith, tt))))
value_bytes_small (Four x) fits = (omega arith, (omega arith, (omega arith, (omega arith, tt))))

-- ---- a mail as it is sent

pub mail_are_bytes : (m : Mail) → m.counter ≤ 7 → m.service ≤ 3 → AreSmall (sdo_bytes m.sdo)
    → AreBytes (mail_bytes (sent m))
mail_are_bytes m counter service rest =
    small_bytes (mail_bytes (sent m)) (
      omega arith,
      (
        omega arith,
        (
          omega arith,
          (
            omega arith,
            (omega arith, (omega (arith, counter), (omega arith, (omega arith, rest)))),
          ),
        ),
      ),
    )
