-- The same without R and without a float's parts: by any fraction a / c that the float is, the nearest whole number to ten times it, which is one only.
use Rattle.std.specs.Prelude.{ℕ, ◌+◌, ◌*◌, ◌≤◌, ◌<◌, ◌≡◌, Bool, true, false, [], ◌∷◌, Float}
use Rattle.std.specs.Float.{nan, inf}
use Rattle.std.specs.Float.Ieee.Exact.{HasValue}
use Rattle.base.specs.Limits.{largest}
use Rattle.base.specs.Answer.{Answer, figures, refusal}
use Rattle.probe_spec.specs.Tenths.{tenths_answer}

-- n is no more than a half above 10 a / c, and less than a half below it
pub record NearestTenths (a c n : ℕ) : Type 0 where
  pub above : 2 * n * c ≤ 20 * a + c
  pub below : 20 * a < 2 * n * c + c

-- the answer to a float that is a / c: its nearest tenths, or 32 where these exceed 99,999,999
pub data TenthsOfFraction (a c : ℕ) : Answer → Type 0 where
  shown : (n : ℕ) → NearestTenths a c n → n ≤ largest → TenthsOfFraction a c (figures (n ∷ []))
  too_great : (n : ℕ) → NearestTenths a c n → largest < n → TenthsOfFraction a c (refusal 32)

-- for every float
pub record FloatsRight : Type 0 where
  pub nearest : (x : Float) (a c : ℕ) → 0 < c → HasValue x false a c → TenthsOfFraction a c (tenths_answer x)
  pub only : (a c m n : ℕ) → NearestTenths a c m → NearestTenths a c n → m ≡ n
  pub minus_zero : (x : Float) (c : ℕ) → 0 < c → HasValue x true 0 c → tenths_answer x ≡ figures (0 ∷ [])
  pub negative : (x : Float) (a c : ℕ) → 0 < a → HasValue x true a c → tenths_answer x ≡ refusal 31
  pub infinite : (s : Bool) → tenths_answer (inf s) ≡ refusal 31
  pub not_a_number : tenths_answer nan ≡ refusal 31
