-- What a greater bound on turns changes: only a run that went past the smaller one.
use Rattle.fi_eval.specs.Outcome.{Got, Over}

pub data Kept {W A : Type 0} : Got W A → Got W A → Type 0 where
  same : {r : Got W A} → Kept r r
  past : {r : Got W A} → Kept Over r
