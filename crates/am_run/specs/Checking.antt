-- What the parts of `check` add to the summary.
use Rattle.std.specs.Prelude.{◌≡◌, ℕ, List, ◌++◌}
use Rattle.am_addr.specs.Bits.{Span}
use Rattle.am_domain.specs.Values.{FlowValue}
use Rattle.am_run.specs.commands.Check.{IsPrefixShown, IsFlowLine, AreFlowLines}

-- the text grew by a prefix
pub record AddsPrefix (span : Span) (old new : List ℕ) : Type 0 where
  pub text : List ℕ
  pub is : IsPrefixShown span text
  pub added : new ≡ old ++ text

-- the text grew by the line of a flow
pub record AddsFlow (f : FlowValue) (old new : List ℕ) : Type 0 where
  pub line : List ℕ
  pub is : IsFlowLine f line
  pub added : new ≡ old ++ line

-- the text grew by the lines of flows
pub record AddsFlows (fs : List FlowValue) (old new : List ℕ) : Type 0 where
  pub lines : List ℕ
  pub are : AreFlowLines fs lines
  pub added : new ≡ old ++ lines
