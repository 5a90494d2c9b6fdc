-- Part of the proof: how the parser refuses, by the states of the machine that it goes by. What is claimed of a source doesn't rest on it.
use Rattle.std.specs.Prelude.{◌≡◌, ◌≢◌, ◌<◌, ◌⊎◌, codes}
use Rattle.fic_base.specs.declared.code.Code.TheVariants as code
use Rattle.fic_base.specs.declared.refusal.Refusal.{Refusal}
use Rattle.mat_token.specs.Lexeme.{Lexeme}
use Rattle.mat_grammar.specs.Machine.{State, Stuck}
use Rattle.mat_grammar.specs.Least.{least}
use Rattle.mat_grammar.specs.Refused.{shown}

-- the refusal at a token behind which the machine is in this state
abbrev pub IsRefusalAt : State → Lexeme → Refusal → Type 0
IsRefusalAt q t r =
    (r.place ≡ t.place)
    × (((q ≡ Stuck) × (r.code ≡ code.Syntax) × (r.shown ≡ shown t.kind t.text))
    ⊎ ((q ≢ Stuck) × (100 < least q) × (r.code ≡ code.Limit) × (r.shown ≡ codes "100")))
