-- Which calls of a stand-in are to fail, and how many calls and failures there were: this crate's
-- README, "Stand-ins".
use Rattle.std.specs.Prelude.{ℕ, ◌==◌, Bool, List, [], ◌∷◌, ◌++◌}
use Rattle.std.specs.List.{list_any}
use Rattle.hipe_base.specs.Count.{counted}

-- the numbers of the calls that are to fail; the number of the next call; the failures
pub record FailurePlan : Type 0 where
  pub failing : List ℕ
  pub calls : ℕ
  pub faults : ℕ

-- no call is to fail, and none was made
abbrev pub no_failures : FailurePlan
no_failures = record { failing = []; calls = 0; faults = 0 }

-- another call is to fail too
abbrev pub with_failure : FailurePlan → ℕ → FailurePlan
with_failure plan call = record plan { failing = plan.failing ++ call ∷ [] }

-- the next call is to fail
abbrev pub next_fails : FailurePlan → Bool
next_fails plan = list_any (λ call. call == plan.calls) plan.failing

-- after a call
abbrev pub after_call : FailurePlan → FailurePlan
after_call plan = record plan { calls = counted plan.calls 1 }

-- after a failure
abbrev pub after_fault : FailurePlan → FailurePlan
after_fault plan = record plan { faults = counted plan.faults 1 }
