-- The statuses that have to come.
use Rattle.std.proofs.Common.{inl, inr, ◌⊎◌, ◌≡◌, ℕ, zero, suc, ◌+◌, ◌<◌, ◌≤◌, ℤ, List, [], ◌∷◌, length, drop, refl, sym, ap, ◌∙◌, subst, arith}
use Rattle.std.specs.Prelude.{Option, Some, None, IfSome}
use Rattle.std.proofs.lemmas.Bool.{cases_lt}
use Rattle.std.proofs.lemmas.List.{take-append-drop}
use Rattle.fic_base.specs.declared.refusal.Refusal.{Refusal}
use Rattle.num_type.specs.Types.{NumericType}
use Rattle.shape_rules.specs.declared.declared.Declared.{Declared}
use Rattle.mat_ast.specs.Tree.{Fun}
use Rattle.mat_token.specs.declared.token.Token.{Token}
use Rattle.mat_token.specs.Lexeme.{lexemes_of}
use Rattle.mat_token.specs.Reads.{Gives}
use Rattle.mat_token.proofs.Once.{outcome_once}
use Rattle.mat_parse.specs.Parsed.{Tree, Refused, IsParse}
use Rattle.mat_parse.proofs.Parses.{parse_once}
use Rattle.walk_scope.specs.Told as told
use Rattle.walk_scope.specs.Told.{Told}
use Rattle.walk_scope.specs.Shown.{text_at}
use Rattle.scalar_walk.specs.Walk.{walked}
use Rattle.fic_io.specs.Causes as io
use Rattle.c_tree.specs.Tree.{Program}
use Rattle.c_read.specs.declared.refusal.CBad.{CBad}
use Rattle.c_read.specs.Program as text
use Rattle.c_read.specs.Program.{IsTextOf}
use Rattle.case_io.specs.declared.refusal.CaseBad.{CaseBad}
use Rattle.case_io.specs.declared.refusal.CaseBad.TheVariants as case
use Rattle.case_io.specs.declared.refusal.CaseRefusal.{CaseRefusal}
use Rattle.case_io.specs.Cases.{Range, input_ranges}
use Rattle.case_io.specs.Plain.{IsCase, IsBad}
use Rattle.fi_cli.specs.Forms.{Command, Compile, Run, IsForm, IsBadAt}
use Rattle.fi_cli.specs.Source.{num_types, IsWalk, IsSourceRefusal}
use Rattle.fi_cli.specs.Results.{AreResults}
use Rattle.fi_cli.specs.Commands as made
use Rattle.fi_cli.specs.Commands.{Bad, BadSource, BadText, BadCases, files, AreRefused, IsRefusedBy, AllTold, AreContents}
use Rattle.fi_cli.specs.Causes.{ShelfSide, SinkSide, Cause, Refused, Unread, Wanting, Formless, status_of, Stands, AsksFor, IsDone, IsTold, OutFailed, ErrFailed, GainsOrFails, Says}
use Rattle.fi_cli.specs.Lines.{write_line}
use Rattle.fi_cli.specs.Answers.{Serves, Whole, IsOr4, Answers}

-- Forms

-- words that have a form have no bad position
pub formed : (words : List (List ℕ)) (n : ℕ) (c : Command) → IsForm c words → IsBadAt words n → ⊥
formed words n c form bad = by (cases_lt n (length words))
  where
    by : (n < length words) ⊎ (length words ≤ n) → ⊥
    by (inl less) = bad.stops less (drop (n + 1) words, c, subst (IsForm c) (sym (take-append-drop (n + 1) words)) form)
    by (inr more) = bad.ends (omega (arith, more, bad.within)) c form

-- Sources

walk_tree : (source entry : List ℕ) (ds : List Declared) (t : Told (List NumericType)) (w : IsWalk source entry ds t) → IsParse source (Tree w.file)
walk_tree source entry ds t w = record { outcome = Gives w.tokens; is = w.are; gives = w.tree }

same_tokens : (a b : List Token) → Gives a ≡ Gives b → a ≡ b
same_tokens a b e = cc

same_file : (a b : List Fun) → Tree a ≡ Tree b → a ≡ b
same_file a b e = cc

no_tree : (fs : List Fun) (r : Refusal) → Tree fs ≡ Refused r → ⊥
no_tree fs r e = absurd cc

passes_not : (ts : List NumericType) (r : Refusal) (t : Told (List NumericType)) → t ≡ told.Passes ts → t ≡ told.Refuses r.code r.place r.shown → ⊥
passes_not ts r t p q = absurd cc

-- an accepted source has no refusal
pub accepted_only : (source entry : List ℕ) (ds : List Declared) (types : List NumericType) (r : Refusal) → IsWalk source entry ds (told.Passes types) → IsSourceRefusal source entry ds r → ⊥
accepted_only source entry ds types r w (inl p) = no_tree w.file r (parse_once source (Tree w.file) (Refused r) (walk_tree source entry ds (told.Passes types) w) p)
accepted_only source entry ds types r w (inr v) =
    let tokens = same_tokens w.tokens v.tokens (outcome_once source (Gives w.tokens) (Gives v.tokens) w.are v.are) in
    let file = same_file w.file v.file (parse_once source (Tree w.file) (Tree v.file) (walk_tree source entry ds _ w) (walk_tree source entry ds _ v)) in
    passes_not types r (walked (text_at (lexemes_of source v.tokens)) v.file entry (num_types ds))
    (ap (λ ts. walked (text_at (lexemes_of source ts)) v.file entry (num_types ds)) (sym tokens) ∙ ap (λ fs. walked (text_at (lexemes_of source w.tokens)) fs entry (num_types ds)) (sym file) ∙ w.tells)
    v.tells

-- what is told of bytes that are told
told_of : {A : Type 0} (o : Option A) (P : A → Type 0) (a : A) → o ≡ Some a → IfSome o P → P a
told_of o P a e h = subst (λ x. IfSome x P) e h

-- Texts and cases

-- a text has one program, and none where it is refused
pub record TextLaws : Type 0 where
  pub one : (p q : Program) (bytes : List ℕ) → IsTextOf p bytes → IsTextOf q bytes → p ≡ q
  pub apart : (p : Program) (kind : CBad) (offset : ℕ) (bytes : List ℕ) → IsTextOf p bytes → text.IsRefusal kind offset bytes → ⊥

-- cases that are read aren't refused
read_cases : (kind : CaseBad) (index : Option ℕ) (ranges : List Range) (inputs : List (List ℤ)) (bytes : List ℕ) → IsCase ranges inputs bytes → IsBad kind index ranges bytes → ⊥
read_cases case.Form None ranges inputs bytes read bad = bad read.texts read.form
read_cases case.Form (Some n) ranges inputs bytes read bad = bad
read_cases case.Value None ranges inputs bytes read bad = bad
read_cases case.Value (Some n) ranges inputs bytes read bad = bad.1.none inputs read

cases_apart : TextLaws → (r : CaseRefusal) (text cases : List ℕ) (turns : ℕ) (out : List ℕ) → AreResults text cases turns out → AreRefused r text cases → ⊥
cases_apart laws r text cases turns out g h =
    let same : h.program ≡ g.program = laws.one h.program g.program text h.read g.read in
    read_cases r.kind r.index (input_ranges g.program.interface) g.inputs cases g.are_inputs (subst (λ p. IsBad r.kind r.index (input_ranges p.interface) cases) same h.bad)

-- a command that gives something isn't refused
apart : TextLaws → (c : Command) (contents : List (List ℕ)) (out : List ℕ) (bad : Bad) → made.IsOutput c contents out → IsRefusedBy bad c contents → ⊥
apart laws (Compile file entry ds) (source ∷ []) out (BadSource r) g h = accepted_only source entry ds g.types r g.accepted h
apart laws (Compile file entry ds) (source ∷ []) out (BadText r) g h = h
apart laws (Compile file entry ds) (source ∷ []) out (BadCases r) g h = h
apart laws (Compile file entry ds) [] out bad g h = g
apart laws (Compile file entry ds) (source ∷ more ∷ rest) out bad g h = g
apart laws (Run file cases turns) (bytes ∷ more ∷ []) out (BadSource r) g h = h
apart laws (Run file cases turns) (bytes ∷ more ∷ []) out (BadText r) g h = laws.apart g.program r.kind r.offset bytes g.read h
apart laws (Run file cases turns) (bytes ∷ more ∷ []) out (BadCases r) g h = cases_apart laws r bytes more turns out g h
apart laws (Run file cases turns) [] out bad g h = g
apart laws (Run file cases turns) (bytes ∷ []) out bad g h = g
apart laws (Run file cases turns) (bytes ∷ more ∷ other ∷ rest) out bad g h = g

-- Contents

all_told : (told : List ℕ → Option (List ℕ)) (names contents : List (List ℕ)) (P : List (List ℕ) → Type 0) → AreContents told names contents → AllTold told names P → P contents
all_told told [] [] P are h = h
all_told told [] (bytes ∷ contents) P are h = absurd are
all_told told (name ∷ names) [] P are h = absurd are
all_told told (name ∷ names) (bytes ∷ contents) P are h =
    all_told told names contents (λ more. P (bytes ∷ more)) are.1 (told_of (told name) (λ b. AllTold told names (λ more. P (b ∷ more))) bytes are.0 h)

-- Statuses

rose : (before now : ℕ) → io.RoseByOne before now → io.Rose before now
rose before now h = omega (arith, h.0)

refused_stands : (words : List (List ℕ)) (shelf : ShelfSide) (bad : Bad) → Stands (Refused bad) words shelf → Serves words shelf (λ c contents. (b : Bad) → IsRefusedBy b c contents → ⊥) → ⊥
refused_stands words shelf bad s serves =
    let at = serves.told s.command s.form in
    at.holds bad (all_told shelf.told (files s.command) at.contents (IsRefusedBy bad s.command) at.told s.holds)

told_carries_out : (status : ℕ) (words : List (List ℕ)) (shelf : ShelfSide) (out err : SinkSide) (cause : Cause) → Stands cause words shelf → status ≡ status_of cause → Whole shelf out err
    → Serves words shelf (λ c contents. (b : Bad) → IsRefusedBy b c contents → ⊥) → IsOr4 status 0
told_carries_out status words shelf out err (Refused bad) s e whole serves = absurd (refused_stands words shelf bad s serves)
told_carries_out status words shelf out err (Unread name) s e whole serves = absurd (whole.read (rose shelf.before shelf.now s.holds.2))
told_carries_out status words shelf out err Wanting s e whole serves = inr e
told_carries_out status words shelf out err (Formless n) s e whole serves = absurd (formed words n serves.form.command serves.form.form s)

told_refuses : (status : ℕ) (words : List (List ℕ)) (shelf : ShelfSide) (out err : SinkSide) (cause : Cause) → Stands cause words shelf → status ≡ status_of cause → Whole shelf out err
    → AsksFor words (λ c. Unit {0}) → IsOr4 status 1
told_refuses status words shelf out err (Refused bad) s e whole form = inl e
told_refuses status words shelf out err (Unread name) s e whole form = absurd (whole.read (rose shelf.before shelf.now s.holds.2))
told_refuses status words shelf out err Wanting s e whole form = inr e
told_refuses status words shelf out err (Formless n) s e whole form = absurd (formed words n form.command form.form s)

told_forms : (status : ℕ) (words : List (List ℕ)) (shelf : ShelfSide) (cause : Cause) (n : ℕ) → Stands cause words shelf → status ≡ status_of cause → IsBadAt words n → IsOr4 status 5
told_forms status words shelf (Refused bad) n s e at = absurd (formed words n s.command s.form at)
told_forms status words shelf (Unread name) n s e at = absurd (formed words n s.command s.form at)
told_forms status words shelf Wanting n s e at = inr e
told_forms status words shelf (Formless m) n s e at = inl e

-- no part of bytes was written where nothing failed
no_part : (words : List (List ℕ)) (shelf : ShelfSide) (out err : SinkSide) → OutFailed words shelf out err ⊎ ErrFailed words shelf out err → Whole shelf out err → ⊥
no_part words shelf out err (inl f) whole = whole.written (rose out.before out.now f.part.rose)
no_part words shelf out err (inr f) whole = whole.told (rose err.before err.now f.part.rose)

done_not_refused : TextLaws → (words : List (List ℕ)) (shelf : ShelfSide) (out err : SinkSide) → IsDone words shelf out err → Serves words shelf (λ c contents. (bad : Bad) × IsRefusedBy bad c contents) → ⊥
done_not_refused laws words shelf out err done serves =
    let a = done.asked in
    let at = serves.told a.command a.form in
    apart laws a.command at.contents done.text at.holds.0 (all_told shelf.told (files a.command) at.contents (λ contents. made.IsOutput a.command contents done.text) at.told a.holds) at.holds.1

done_formed : (words : List (List ℕ)) (shelf : ShelfSide) (out err : SinkSide) (n : ℕ) → IsDone words shelf out err → IsBadAt words n → ⊥
done_formed words shelf out err n done bad = formed words n done.asked.command done.asked.form bad

told_answers : (status : ℕ) (words : List (List ℕ)) (shelf : ShelfSide) (out err : SinkSide) → IsTold status words shelf out err → Answers status words shelf out err
told_answers status words shelf out err t = record {
  carries_out = λ whole serves. told_carries_out status words shelf out err t.cause t.stands t.is_status whole serves;
  refuses = λ whole serves. told_refuses status words shelf out err t.cause t.stands t.is_status whole serves.form;
  forms = λ whole n bad. told_forms status words shelf t.cause n t.stands t.is_status bad;
}

pub says_answers : TextLaws → (status : ℕ) (words : List (List ℕ)) (shelf : ShelfSide) (out err : SinkSide) → Says status words shelf out err → Answers status words shelf out err
says_answers laws zero words shelf out err done = record {
  carries_out = λ whole serves. inl refl;
  refuses = λ whole serves. absurd (done_not_refused laws words shelf out err done serves);
  forms = λ whole n bad. absurd (done_formed words shelf out err n done bad);
}
says_answers laws (suc (suc (suc zero))) words shelf out err failed = record {
  carries_out = λ whole serves. absurd (no_part words shelf out err failed whole);
  refuses = λ whole serves. absurd (no_part words shelf out err failed whole);
  forms = λ whole n bad. absurd (no_part words shelf out err failed whole);
}
says_answers laws (suc zero) words shelf out err t = told_answers 1 words shelf out err t
says_answers laws (suc (suc zero)) words shelf out err t = told_answers 2 words shelf out err t
says_answers laws (suc (suc (suc (suc n)))) words shelf out err t = told_answers (suc (suc (suc (suc n)))) words shelf out err t

-- no count of a sink falls

part_rises : (s : SinkSide) (bytes : List ℕ) → GainsOrFails s bytes → s.before ≤ s.now
part_rises s bytes (inl h) = let e = h.1 in omega arith
part_rises s bytes (inr h) = h.rose.1

told_rises : (status : ℕ) (words : List (List ℕ)) (shelf : ShelfSide) (out err : SinkSide) → IsTold status words shelf out err → (out.before ≤ out.now) × (err.before ≤ err.now)
told_rises status words shelf out err t = let e = t.unchanged.1 in let f = t.gained.1 in (omega arith, omega arith)

failed_rises : (words : List (List ℕ)) (shelf : ShelfSide) (out err : SinkSide) → OutFailed words shelf out err ⊎ ErrFailed words shelf out err → (out.before ≤ out.now) × (err.before ≤ err.now)
failed_rises words shelf out err (inl f) = (f.part.rose.1, part_rises err write_line f.told)
failed_rises words shelf out err (inr f) = let e = f.unchanged.1 in (omega arith, f.part.rose.1)

pub says_rises : (status : ℕ) (words : List (List ℕ)) (shelf : ShelfSide) (out err : SinkSide) → Says status words shelf out err → (out.before ≤ out.now) × (err.before ≤ err.now)
says_rises zero words shelf out err done = let e = done.gained.1 in let f = done.quiet.1 in (omega arith, omega arith)
says_rises (suc (suc (suc zero))) words shelf out err failed = failed_rises words shelf out err failed
says_rises (suc zero) words shelf out err t = told_rises 1 words shelf out err t
says_rises (suc (suc zero)) words shelf out err t = told_rises 2 words shelf out err t
says_rises (suc (suc (suc (suc n)))) words shelf out err t = told_rises (suc (suc (suc (suc n)))) words shelf out err t
