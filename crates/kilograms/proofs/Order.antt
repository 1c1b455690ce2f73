-- No step falls as the volume rises: more oil at the table never shows less V15, gross or net.
use Prim.Native.Nat.{ℕ, ◌≤◌}
use native.Mathlib.Nat.{mul-le-mul_right}
use native.Mathlib.Omega.{arith}
use Rattle.base.proofs.Rounding.{round_mono}
use Rattle.kilograms.specs.Steps

module _ {v w : ℕ} (h : v ≤ w) where
  hot_volume_mono : (c t : ℕ) → Steps.hot_volume v c t ≤ Steps.hot_volume w c t
  unfolding Steps.hot_volume
  hot_volume_mono c t = round_mono _ (omega arith) (mul-le-mul_right _ h)

  cold_volume_mono : (r t : ℕ) → Steps.cold_volume v r t ≤ Steps.cold_volume w r t
  unfolding Steps.cold_volume
  cold_volume_mono r t = round_mono _ (omega arith) (mul-le-mul_right _ h)

  gross_mono : (r : ℕ) → Steps.gross v r ≤ Steps.gross w r
  unfolding Steps.gross
  gross_mono r = round_mono _ (omega arith) (mul-le-mul_right r h)

  net_mono : (a i : ℕ) → Steps.net v a i ≤ Steps.net w a i
  unfolding Steps.net
  net_mono a i = round_mono _ (omega arith) (mul-le-mul_right _ h)

module _ {v w : ℕ} (h : v ≤ w) (c t r : ℕ) where
  pub volume15_rises : Steps.volume15_of v c t r ≤ Steps.volume15_of w c t r
  unfolding Steps.volume15_of
  volume15_rises = cold_volume_mono (hot_volume_mono h c t) r t

  pub gross_rises : Steps.gross_of v c t r ≤ Steps.gross_of w c t r
  unfolding Steps.gross_of
  gross_rises = gross_mono volume15_rises r

  pub net_rises : (a i : ℕ) → Steps.net_of v c t r a i ≤ Steps.net_of w c t r a i
  unfolding Steps.net_of
  net_rises a i = net_mono gross_rises a i
