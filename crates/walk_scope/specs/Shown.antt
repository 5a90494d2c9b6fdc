-- The text of the token at a place.
use Rattle.std.specs.Prelude.{ℕ, Bool, true, false, ◌&&◌, nat_eq, if◌then◌else◌, List, [], ◌∷◌}
use Rattle.fic_base.specs.declared.place.Place.{Place}
use Rattle.mat_token.specs.declared.token.Kind.{Kind}
use Rattle.mat_token.specs.declared.token.Kind.TheVariants as kind
use Rattle.mat_token.specs.Lexeme.{Lexeme}

-- the blank that separates elements of a bracket has no text: the token behind it stands at the same place
abbrev pub has_text : Kind → Bool
has_text kind.Separator = false
has_text _ = true

abbrev pub text_at : List Lexeme → Place → List ℕ
text_at [] at = []
text_at (l ∷ more) at = if nat_eq l.place.offset at.offset && has_text l.kind then l.text else text_at more at
