-- A number's digits: fuel never decides them, how they begin and end, that they are those that std writes, and how many they are.
use Prim.Native.Nat.{ℕ, zero, suc, ◌+◌, ◌-◌, ◌/◌, ◌%◌, ◌^◌, ◌<◌, ◌≤◌}
use mathlib.Core.Bool.{Bool, true, false}
use mathlib.Core.List.{List, [], ◌∷◌, ◌++◌}
use mathlib.Core.Path.{◌≡◌, refl, ap, ◌∙◌}
use native.Mathlib.Omega.{arith}
use native.Mathlib.Nat.{pow-suc}
use borrow.Author.Tests.{ltb-false, lt-ltb, le-ltb}
use lib.Dec.{ltb}
use lib.ListN.{length, length-append}
use Rattle.std.specs.Fmt.{decimal as std_decimal}
use Rattle.std.proofs.lemmas.Fmt.{AppendsLastDigit, decimal_from_appends, length-decimal-le_succ}
use Rattle.std.proofs.Common.{rules}
use Rattle.lines.specs.Lines.{digits, decimal}

-- One step of the definition, by whether the number is below ten.
abbrev step : Bool → ℕ → ℕ → List ℕ
step below fuel x = elim below [ true ↦ (48 + x) ∷ [] | false ↦ digits fuel (x / 10) ++ (48 + x % 10) ∷ [] ]

-- One step more than the number needs changes nothing,
digits_more : (fuel x : ℕ) → x < fuel → digits (suc fuel) x ≡ digits fuel x
unfolding digits
digits_more zero x h = absurd (omega arith)
digits_more (suc fuel) x h = go (ltb x 10) refl (digits_more fuel (x / 10))
  where
    go : (b : Bool) → ltb x 10 ≡ b → (x / 10 < fuel → digits (suc fuel) (x / 10) ≡ digits fuel (x / 10))
        → step b (suc fuel) x ≡ step b fuel x
    go true e rest = refl
    go false e rest =
        ap (λ (l : List ℕ). l ++ (48 + x % 10) ∷ []) (rest (omega (arith, ltb-false x 10 e)))

-- and so every fuel above the number gives its decimal.
pub digits_fuel : (extra x : ℕ) → digits (suc x + extra) x ≡ decimal x
unfolding decimal
digits_fuel zero x = let none : suc x + 0 ≡ suc x = omega arith in ap (λ (n : ℕ). digits n x) none
digits_fuel (suc extra) x =
    let one : suc x + suc extra ≡ suc (suc x + extra) = omega arith in
    ap (λ (n : ℕ). digits n x) one ∙ digits_more (suc x + extra) x (omega arith) ∙ digits_fuel extra x

-- A number below ten is its digit,
pub decimal-one : (x : ℕ) → x < 10 → decimal x ≡ (48 + x) ∷ []
unfolding decimal digits
decimal-one x h = ap (λ (b : Bool). step b x x) (lt-ltb x 10 h)

-- and any other the digits of a tenth of it, and its last digit.
pub decimal_more : (x : ℕ) → 10 ≤ x → decimal x ≡ decimal (x / 10) ++ (48 + x % 10) ∷ []
unfolding decimal digits
decimal_more x h =
    let fuel : x ≡ suc (x / 10) + (x - suc (x / 10)) = omega arith in
    ap (λ (b : Bool). step b x x) (le-ltb x 10 h)
    ∙ ap (λ (l : List ℕ). l ++ (48 + x % 10) ∷ []) (ap (λ (n : ℕ). digits n (x / 10)) fuel ∙ digits_fuel (x - suc (x / 10)) (x / 10))

-- They are those of a tenth of it, and its last digit, as std's are,
last_digit : AppendsLastDigit digits
unfolding digits
last_digit = search rules

-- so what std writes of a number is its decimal.
pub decimal_std : (x : ℕ) → x < 2 ^ 64 → decimal x ≡ std_decimal x
unfolding decimal
decimal_std x h = decimal_from_appends digits last_digit (suc x) x h (omega (arith, length-decimal-le_succ x h))

-- A number below a power of ten has no more digits than the power says; it has one at least.
digits_most : (fuel k x : ℕ) → x < 10 ^ suc k → length (digits fuel x) ≤ suc k
unfolding digits
digits_most zero k x h = omega arith
digits_most (suc fuel) k x h = go (ltb x 10) refl k h (digits_most fuel)
  where
    go : (b : Bool) → ltb x 10 ≡ b → (k : ℕ) → x < 10 ^ suc k → ((k y : ℕ) → y < 10 ^ suc k → length (digits fuel y) ≤ suc k)
        → length (step b fuel x) ≤ suc k
    go true e k h ih = omega arith
    go false e zero h ih = absurd (omega (arith, ltb-false x 10 e))
    go false e (suc k) h ih =
        let tenth : x / 10 < 10 ^ suc k = omega (arith, rw (pow-suc 10 (suc k)) at h) in
        omega (arith, length-append (digits fuel (x / 10)) ((48 + x % 10) ∷ []), ih k (x / 10) tenth)

pub decimal_most : (k x : ℕ) → x < 10 ^ suc k → length (decimal x) ≤ suc k
unfolding decimal
decimal_most k x h = digits_most (suc x) k x h
