-- The limit of the permitted error, in 0.0001 %, and whether it is within what document 003 allows.
use Rattle.std.specs.Prelude.{ℕ, ◌*◌, ◌≤◌, Bool, cond, ltb, leb}

-- the smallest whole n with 100 n² at least 121 times the sum s of the squares
pub record IsLimit (s n : ℕ) : Type 0 where
  pub enough : 121 * s ≤ 100 * (n * n)
  pub smallest : (k : ℕ) → 121 * s ≤ 100 * (k * k) → n ≤ k

-- what is allowed for a gross mass in kg: 0.65 % below 100 t, 0.50 % from 100 t
abbrev pub allowed : ℕ → ℕ
allowed gross = cond (ltb gross 100_000) 6_500 5_000

abbrev pub within : ℕ → ℕ → Bool
within n gross = leb n (allowed gross)
