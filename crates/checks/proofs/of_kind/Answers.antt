-- `checks::of_kind` meets its contract.
use native.Mathlib.Omega.{arith}
use Rattle.laws.specs.ChecksLaws.{kind_known, kind_unknown}
use Rattle.checks.proofs.of_kind.Goals as goal

pub returns-in_default : goal.returns-in_default
returns-in_default c = kind_unknown _ (omega arith)

pub returns-in_default-2 : goal.returns-in_default-2
returns-in_default-2 c = kind_unknown _ (omega arith)

pub returns-in-0 : goal.returns-in-0
returns-in-0 c = kind_known _ (omega arith) (omega arith)

pub returns-in-0-2 : goal.returns-in-0-2
returns-in-0-2 c = kind_known _ (omega arith) (omega arith)
