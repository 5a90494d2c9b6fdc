-- What the levels of the code stand for.
use Rattle.std.specs.Prelude.{ℕ, List, [], ◌∷◌}
use Rattle.c_depth.specs.declared.level.Level.{Level}
use Rattle.c_depth.specs.Read.{Nest}

-- the last number is the innermost
abbrev pub onto : List ℕ → List ℕ → List ℕ
onto [] st = st
onto (b ∷ bs) st = onto bs (b ∷ st)

abbrev pub innermost_first : List ℕ → List ℕ
innermost_first bs = onto bs []

unfoldable pub level_view : Level → Nest
level_view l = record { before = l.before; depth = l.depth; base = l.base; outer = innermost_first l.outer }
