use Rattle.std.proofs.Common.{◌↔◌, drop}
use Rattle.std.specs.Prelude.{ℤ, IsNone}
use Rattle.num_type.specs.Precision.{AreHeld, AreZero, IsUpTo}
use Rattle.num_type.proofs.precision.best_fraction.Given as goal

abbrev pub invariant-loop-value : goal.invariant-loop-value
invariant-loop-value l = record {
  held : (fraction : ℤ) → AreHeld l.signed l.word fraction l.values ↔ (IsUpTo l.best fraction × AreHeld l.signed l.word fraction (drop l.value-index l.values));
  zero : AreZero l.signed l.values ↔ (IsNone l.best × AreZero l.signed (drop l.value-index l.values));
}
