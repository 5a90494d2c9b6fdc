-- Words that have the same text beside every interface.
use Rattle.std.specs.Prelude.{[]}
use Rattle.c_tree.specs.Texts.{Text, container_text, rel_text, op_text}
use Rattle.c_grammar.specs.declared.word.CWordToken.{CWordToken}
use Rattle.c_grammar.specs.declared.word.CWordToken.TheVariants as word
use Rattle.c_grammar.specs.Words.{macro_name, keyword_text, sign_text}

-- the text of such a word, and nothing for another
abbrev pub fixed_text : CWordToken → Text
fixed_text (word.Type c) = container_text c
fixed_text (word.Macro m) = macro_name m
fixed_text (word.Keyword k) = keyword_text k
fixed_text (word.Rel r) = rel_text r
fixed_text (word.Op o) = op_text o
fixed_text (word.Sign s) = sign_text s
fixed_text _ = []
