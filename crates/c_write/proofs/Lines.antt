-- Blanks before a line, one level more at a time.
use Rattle.std.proofs.Common.{◌≡◌, ℕ, zero, suc, ◌+◌, ◌++◌, codes, refl, sym, ap, ◌∙◌, append_assoc, add-one}
use Rattle.c_tree.specs.Layout.{indent}

pub indent_more : (n : ℕ) → indent (suc n) ≡ indent n ++ codes "  "
indent_more zero = refl
indent_more (suc n) = ap (λ l. codes "  " ++ l) (indent_more n) ∙ sym (append_assoc (codes "  ") (indent n) (codes "  "))

pub indent_next : (n : ℕ) → indent (n + 1) ≡ indent n ++ codes "  "
indent_next n = rw add-one (indent_more n)
