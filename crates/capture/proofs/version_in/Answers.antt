use Rattle.std.proofs.Common.{sym, ◌∙◌, arith}
use Rattle.capture.specs.Says.{version_none, version_unused, version_unknown, version_known}
use Rattle.capture.proofs.version_in.Goals.{then-buf-lt1-via-then-buf-lt1, then-buf-lt1-via-else-buf-lt1+then-used-lt1}
use Rattle.capture.proofs.version_in.Goals as goal

pub returns-then-buf-lt1 : goal.returns-then-buf-lt1
returns-then-buf-lt1 c =
    elim c.then-buf-lt1.branch [
      | then-buf-lt1-via-then-buf-lt1 w ↦ version_none _ _ (omega arith)
      | then-buf-lt1-via-else-buf-lt1+then-used-lt1 w ↦ version_unused _ _ (omega arith) (omega arith)
    ]

pub returns-then-not-is_version : goal.returns-then-not-is_version
returns-then-not-is_version c = version_unknown _ _ (omega arith) (omega arith) (sym c.is_version.ensures ∙ c.if-not-is_version.true)

pub returns : goal.returns
returns c = version_known _ _ _ (omega arith) (omega arith) (sym c.is_version.ensures ∙ c.if-not-is_version.false) c.layout_of.ensures
