-- What merging hands back, as callers in C have it, and by a result of the code.
use Rattle.std.specs.Prelude.{ℕ, Result, Ok, Err}
use Rattle.base.specs.Refusal.{refusal_number}
use Rattle.base.specs.declared.refusal.Refusal.{Refusal}
use Rattle.holding.specs.declared.LineRefusal.{LineRefusal}

-- the length of the merged sheet in bytes, and 0 and 0; or 0, the number of the refusal and its line
pub record MergeReply : Type 0 where
  pub length : ℕ
  pub number : ℕ
  pub line : ℕ

abbrev pub reply_of : Result ℕ LineRefusal → MergeReply
reply_of (Ok n) = record { length = n; number = 0; line = 0 }
reply_of (Err r) = record { length = 0; number = refusal_number r.refusal; line = r.line }

-- a refusal of merging itself has line 0
abbrev pub reply_by : Result ℕ Refusal → MergeReply
reply_by (Ok n) = record { length = n; number = 0; line = 0 }
reply_by (Err r) = record { length = 0; number = refusal_number r; line = 0 }
