-- `search tests` answers a `return` behind tests, where the contract cites a definition by `cond` on `ltb`, `leb` and `eqb`.
use borrow.Author.Needs.{needs}
use borrow.Author.Tests.{lt-ltb, le-ltb, le-leb, lt-leb, eq-eqb, ne-eqb}

pub ruleset tests = (lt-ltb, le-ltb, le-leb, lt-leb, eq-eqb, ne-eqb)

pub ruleset decide = (needs, tests)
