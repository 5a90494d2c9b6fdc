-- A text has one answer: one program, or one refusal.
use Rattle.std.proofs.Common.{◌≡◌, ◌≢◌, ℕ, zero, suc, ◌+◌, ◌<◌, ◌≤◌, ◌==◌, Bool, true, List, [], ◌∷◌, ◌++◌, map, take, drop, length, get_or, refl, sym, ap, ◌∙◌, arith, subst, append_assoc, inl, length-drop}
use Rattle.std.specs.Prelude.{◌↔◌, All}
use Rattle.std.proofs.lemmas.Bool.{eq-eqb}
use Rattle.std.proofs.lemmas.List.{append_cancel_left, take-append-drop, take-take}
use Rattle.c_tree.specs.CText.{AreTokens}
use Rattle.c_tree.specs.Depth.{depth, depth_limit}
use Rattle.c_tree.specs.Depths.{Depths, depths, greatest}
use Rattle.c_tree.specs.Interface.{include_line, interface_line}
use Rattle.c_tree.specs.Spelling.{Texts, spelled}
use Rattle.c_tree.specs.Tree.{Signature, Program}
use Rattle.c_tree.specs.WellFormed.{IsInterface, IsWellFormed}
use Rattle.c_token.specs.Line.{IsSignature}
use Rattle.c_token.specs.Scan.{Lexeme, AreLexed, texts_of}
use Rattle.c_grammar.specs.Sentence.{Words, words_of}
use Rattle.c_grammar.specs.Spelled.{AreWordsOf, IsSpelled, IsLiveText}
use Rattle.c_grammar.specs.Words.{text_of, IsToken}
use Rattle.c_depth.specs.Read.{word_depths}
use Rattle.c_read.specs.declared.refusal.CBad.{CBad}
use Rattle.c_read.specs.declared.refusal.CBad.TheVariants as bad
use Rattle.c_read.specs.Front.{HasFront, HasNoInclude, HasNoInterface}
use Rattle.c_read.specs.Program.{IsTextOf, IsUnfit, IsDeep, IsShallowTo, IsBadToken, IsBadText, IsRefusal, place}
use Rattle.c_read.proofs.Places.{DepthByWords}

-- ---- what the laws below say

abbrev pub OneInterface : Type 0
OneInterface = (i j : Signature) (a b : List ℕ) → IsSignature i → IsSignature j → interface_line i ++ a ≡ interface_line j ++ b → (i ≡ j) × (a ≡ b)

abbrev pub OneReading : Type 0
OneReading = (at : ℕ) (bytes : List ℕ) (ts us : List Lexeme) (m n : ℕ) → AreLexed at ts m bytes → AreLexed at us n bytes → (ts ≡ us) × (m ≡ n)

abbrev pub TokensAreRead : Type 0
TokensAreRead = (bytes : List ℕ) (texts : Texts) (at : ℕ) (ts : List Lexeme) (stop : ℕ) → AreTokens texts bytes → AreLexed at ts stop bytes → (texts_of ts ≡ texts) × (stop ≡ at + length bytes)

abbrev pub HasASlot : Type 0
HasASlot = (i : Signature) → IsInterface i ↔ (IsSignature i × (i.inputs ++ i.outputs ≢ []))

-- ---- tokens

longer : (i : Signature) (pre post : Texts) → IsLiveText i (pre ++ post) → IsLiveText i pre
longer i pre post h = record { more = post ++ h.more; program = h.program; spelled = subst (IsSpelled i h.program) (append_assoc pre post h.more) h.spelled }

shorter : (i : Signature) (k n : ℕ) (ts : Texts) → k ≤ n → IsLiveText i (take n ts) → IsLiveText i (take k ts)
shorter i k n ts h l =
    let front = take n ts in
    let whole : front ≡ take k ts ++ drop k front = sym (take-append-drop k front) ∙ ap (λ us. us ++ drop k front) (take-take k n ts h) in
    longer i (take k ts) (drop k front) (subst (IsLiveText i) whole l)

not_below : (i : Signature) (ts : Texts) (at_end : Bool) (m n : ℕ) → IsUnfit i ts at_end m → IsUnfit i ts at_end n → m < n → ⊥
not_below i ts at_end m n h k l = h.next (let w = k.within in omega arith) (shorter i (suc m) n ts (omega arith) (k.live (omega arith)))

not_both : (i : Signature) (ts : Texts) (at_end : Bool) (m n : ℕ) → IsUnfit i ts at_end m → IsShallowTo i ts m → IsDeep i ts n → ⊥
not_both i ts at_end m n h s d =
    let a : n < m → ⊥ = λ l. s n l d in
    let b : m ≤ n → ⊥ = λ l. h.next (let w = d.within in omega arith) (shorter i (suc m) (suc n) ts (omega arith) d.live) in
    absurd (omega (arith, a, b))

one_bad : (j k : CBad) (i : Signature) (ts : Texts) (at_end : Bool) (m n : ℕ) → IsBadToken j i ts at_end m → IsBadToken k i ts at_end n → (j ≡ k) × (m ≡ n)
one_bad bad.Include k i ts at_end m n h g = absurd h
one_bad bad.Interface k i ts at_end m n h g = absurd h
one_bad bad.Token bad.Include i ts at_end m n h g = absurd g
one_bad bad.Token bad.Interface i ts at_end m n h g = absurd g
one_bad bad.Token bad.Token i ts at_end m n h g =
    let a = not_below i ts at_end m n h.0 g.0 in let b = not_below i ts at_end n m g.0 h.0 in (refl, omega (arith, a, b))
one_bad bad.Token bad.Limit i ts at_end m n h g = absurd (not_both i ts at_end m n h.0 h.1 g.0)
one_bad bad.Limit bad.Include i ts at_end m n h g = absurd g
one_bad bad.Limit bad.Interface i ts at_end m n h g = absurd g
one_bad bad.Limit bad.Token i ts at_end m n h g = absurd (not_both i ts at_end n m g.0 g.1 h.0)
one_bad bad.Limit bad.Limit i ts at_end m n h g =
    let a : m < n → ⊥ = λ l. g.1 m l h.0 in let b : n < m → ⊥ = λ l. h.1 n l g.0 in (refl, omega (arith, a, b))

-- ---- the first two lines

one_front : OneInterface → (i j : Signature) (e f : ℕ) (bytes : List ℕ) → HasFront i e bytes → HasFront j f bytes → (i ≡ j) × (e ≡ f)
one_front law i j e f bytes h k =
    let whole : include_line ++ (interface_line i ++ drop e bytes) ≡ include_line ++ (interface_line j ++ drop f bytes) =
    sym (append_assoc include_line (interface_line i) (drop e bytes)) ∙ sym h.whole ∙ k.whole ∙ append_assoc include_line (interface_line j) (drop f bytes) in
    let lines = law i j (drop e bytes) (drop f bytes) h.signature k.signature (append_cancel_left include_line (interface_line i ++ drop e bytes) (interface_line j ++ drop f bytes) whole) in
    let a = length-drop e bytes in
    let b = length-drop f bytes in
    let c = ap length lines.1 in
    let d = h.within in
    let g = k.within in
    (lines.0, omega arith)

-- ---- one refusal

one_text : OneInterface → OneReading → (j k : CBad) (m n : ℕ) (bytes : List ℕ) → IsBadText j m bytes → IsBadText k n bytes → (j ≡ k) × (m ≡ n)
one_text lines reads j k m n bytes r s =
    let front = one_front lines s.interface r.interface s.end r.end bytes s.has.front r.has.front in
    let lexed : AreLexed 0 s.tokens s.stop (drop r.end bytes) = subst (λ e. AreLexed 0 s.tokens s.stop (drop e bytes)) front.1 s.has.lexed in
    let same = reads 0 (drop r.end bytes) s.tokens r.tokens s.stop r.stop lexed r.has.lexed in
    let at_end : (s.stop == length (drop s.end bytes)) ≡ (r.stop == length (drop r.end bytes)) = ap (λ e. s.stop == length (drop e bytes)) front.1 ∙ ap (λ x. x == length (drop r.end bytes)) same.1 in
    let there : IsBadToken k r.interface (texts_of r.tokens) (r.stop == length (drop r.end bytes)) s.number =
    subst (λ i. IsBadToken k i (texts_of r.tokens) (r.stop == length (drop r.end bytes)) s.number) front.0
    (subst (λ ts. IsBadToken k s.interface (texts_of ts) (r.stop == length (drop r.end bytes)) s.number) same.0
    (subst (λ b. IsBadToken k s.interface (texts_of s.tokens) b s.number) at_end s.bad)) in
    let one = one_bad j k r.interface (texts_of r.tokens) (r.stop == length (drop r.end bytes)) r.number s.number r.bad there in
    let places : place r.tokens r.stop r.number ≡ place s.tokens s.stop s.number =
    ap (place r.tokens r.stop) one.1 ∙ ap (λ x. place r.tokens x s.number) (sym same.1) ∙ ap (λ ts. place ts s.stop s.number) (sym same.0) in
    let ends = front.1 in
    let a = r.there in
    let b = s.there in
    (one.0, omega arith)

begins : (i : Signature) (e : ℕ) (bytes : List ℕ) → HasFront i e bytes → bytes ≡ include_line ++ (interface_line i ++ drop e bytes)
begins i e bytes h = h.whole ∙ append_assoc include_line (interface_line i) (drop e bytes)

no_include : (k : CBad) (n : ℕ) (bytes : List ℕ) → IsBadText k n bytes → HasNoInclude bytes → ⊥
no_include k n bytes r h = h (interface_line r.interface ++ drop r.end bytes) (begins r.interface r.end bytes r.has.front)

no_interface : (k : CBad) (n : ℕ) (bytes : List ℕ) → IsBadText k n bytes → HasNoInterface bytes → ⊥
no_interface k n bytes r h = h.none r.interface (drop r.end bytes) r.has.front.signature r.has.front.whole

pub one_refusal : OneInterface → OneReading → (j k : CBad) (m n : ℕ) (bytes : List ℕ) → IsRefusal j m bytes → IsRefusal k n bytes → (j ≡ k) × (m ≡ n)
one_refusal lines reads bad.Include bad.Include m n bytes h g = (refl, h.0 ∙ sym g.0)
one_refusal lines reads bad.Include bad.Interface m n bytes h g = absurd (h.1 g.1.rest g.1.include)
one_refusal lines reads bad.Include bad.Token m n bytes h g = absurd (no_include bad.Token n bytes g h.1)
one_refusal lines reads bad.Include bad.Limit m n bytes h g = absurd (no_include bad.Limit n bytes g h.1)
one_refusal lines reads bad.Interface bad.Include m n bytes h g = absurd (g.1 h.1.rest h.1.include)
one_refusal lines reads bad.Interface bad.Interface m n bytes h g = (refl, h.0 ∙ sym g.0)
one_refusal lines reads bad.Interface bad.Token m n bytes h g = absurd (no_interface bad.Token n bytes g h.1)
one_refusal lines reads bad.Interface bad.Limit m n bytes h g = absurd (no_interface bad.Limit n bytes g h.1)
one_refusal lines reads bad.Token bad.Include m n bytes h g = absurd (no_include bad.Token m bytes h g.1)
one_refusal lines reads bad.Token bad.Interface m n bytes h g = absurd (no_interface bad.Token m bytes h g.1)
one_refusal lines reads bad.Token bad.Token m n bytes h g = one_text lines reads bad.Token bad.Token m n bytes h g
one_refusal lines reads bad.Token bad.Limit m n bytes h g = one_text lines reads bad.Token bad.Limit m n bytes h g
one_refusal lines reads bad.Limit bad.Include m n bytes h g = absurd (no_include bad.Limit m bytes h g.1)
one_refusal lines reads bad.Limit bad.Interface m n bytes h g = absurd (no_interface bad.Limit m bytes h g.1)
one_refusal lines reads bad.Limit bad.Token m n bytes h g = one_text lines reads bad.Limit bad.Token m n bytes h g
one_refusal lines reads bad.Limit bad.Limit m n bytes h g = one_text lines reads bad.Limit bad.Limit m n bytes h g

-- ---- no program and a refusal

-- each word of a program is that of its text
words_are : (i : Signature) (ws : Words) → All (IsToken i) ws → AreWordsOf i (map (text_of i) ws) ws
words_are i [] h = tt
words_are i (w ∷ ws) h = (inl (h 0 w (omega arith), refl), words_are i ws (λ k d m. h (suc k) d (omega arith)))

below_greatest : (ds : Depths) (n : ℕ) → get_or ds n 0 ≤ greatest ds
below_greatest [] n = omega arith
below_greatest (d ∷ ds) zero = omega arith
below_greatest (d ∷ ds) (suc n) = let h = below_greatest ds n in omega arith

-- the laws on a program's words and depths
pub record IsKnown (p : Program) : Type 0 where
  pub tokens : All (IsToken p.interface) (words_of p)
  pub texts : map (text_of p.interface) (words_of p) ≡ spelled p
  pub depths_read : word_depths (words_of p) ≡ depths p
  pub greatest_is : greatest (depths p) ≡ depth p

-- a program that is no deeper than a text may be has no deep token
not_deep : DepthByWords → (p : Program) → IsKnown p → IsInterface p.interface → depth p ≤ depth_limit → (n : ℕ) → IsDeep p.interface (spelled p) n → ⊥
not_deep law p known it s n d =
    let i = p.interface in
    let words : AreWordsOf i (spelled p) (words_of p) = subst (λ ts. AreWordsOf i ts (words_of p)) known.texts (words_are i (words_of p) known.tokens) in
    let a = law i d.live.program (spelled p) d.live.more (words_of p) n it words d.within d.live.spelled in
    let b : get_or (word_depths (words_of p)) n 0 ≡ get_or (depths p) n 0 = ap (λ ds. get_or ds n 0) known.depths_read in
    let c = below_greatest (depths p) n in
    let e = known.greatest_is in
    let f = d.deep in
    omega arith

not_unfit : (p : Program) → IsWellFormed p → IsSpelled p.interface p (spelled p) → (n : ℕ) → IsUnfit p.interface (spelled p) true n → ⊥
not_unfit p w s n u =
    let i = p.interface in
    let ts = spelled p in
    let whole : IsSpelled i p (take (suc n) ts ++ drop (suc n) ts) = subst (IsSpelled i p) (sym (take-append-drop (suc n) ts)) s in
    let a : n < length ts → ⊥ = λ l. u.next l (record { more = drop (suc n) ts; program = p; spelled = whole }) in
    let b : n ≡ length ts → ⊥ = λ e. u.none e refl p s in
    let m = u.within in
    absurd (omega (arith, a, b))

no_bad : DepthByWords → (p : Program) → IsKnown p → IsWellFormed p → IsSpelled p.interface p (spelled p) → depth p ≤ depth_limit → (k : CBad) (n : ℕ) → IsBadToken k p.interface (spelled p) true n → ⊥
no_bad law p known w s d bad.Include n h = h
no_bad law p known w s d bad.Interface n h = h
no_bad law p known w s d bad.Token n h = not_unfit p w s n h.0
no_bad law p known w s d bad.Limit n h = not_deep law p known w.interface d n h.0

no_text : OneInterface → TokensAreRead → HasASlot → DepthByWords → (p : Program) → IsKnown p → (k : CBad) (n : ℕ) (bytes : List ℕ) → IsTextOf p bytes → IsBadText k n bytes → ⊥
no_text lines reads slot law p known k n bytes t r =
    let front = r.has.front in
    let whole : include_line ++ (interface_line p.interface ++ t.text.function) ≡ include_line ++ (interface_line r.interface ++ drop r.end bytes) =
    sym (append_assoc include_line (interface_line p.interface) t.text.function) ∙ sym t.text.whole ∙ begins r.interface r.end bytes front in
    let same = lines p.interface r.interface t.text.function (drop r.end bytes) ((slot p.interface).0 t.well_formed.interface).0 front.signature
    (append_cancel_left include_line (interface_line p.interface ++ t.text.function) (interface_line r.interface ++ drop r.end bytes) whole) in
    let read = reads (drop r.end bytes) (spelled p) 0 r.tokens r.stop (subst (AreTokens (spelled p)) same.1 t.text.tokens) r.has.lexed in
    let stop = read.1 in
    let ends : r.stop ≡ length (drop r.end bytes) = omega arith in
    let there : IsBadToken k p.interface (spelled p) true r.number =
    subst (λ b. IsBadToken k p.interface (spelled p) b r.number) (eq-eqb r.stop (length (drop r.end bytes)) ends)
    (subst (λ ts. IsBadToken k p.interface ts (r.stop == length (drop r.end bytes)) r.number) read.0
    (subst (λ i. IsBadToken k i (texts_of r.tokens) (r.stop == length (drop r.end bytes)) r.number) (sym same.0) r.bad)) in
    no_bad law p known t.well_formed (record { interface = refl; well_formed = t.well_formed; built = t.built; tokens = refl }) t.shallow k r.number there

pub no_refusal : OneInterface → TokensAreRead → HasASlot → DepthByWords → (p : Program) → IsKnown p → (k : CBad) (n : ℕ) (bytes : List ℕ) → IsTextOf p bytes → IsRefusal k n bytes → ⊥
no_refusal lines reads slot law p known bad.Include n bytes t h =
    h.1 (interface_line p.interface ++ t.text.function) (t.text.whole ∙ append_assoc include_line (interface_line p.interface) t.text.function)
no_refusal lines reads slot law p known bad.Interface n bytes t h =
    h.1.none p.interface t.text.function ((slot p.interface).0 t.well_formed.interface).0 t.text.whole
no_refusal lines reads slot law p known bad.Token n bytes t h = no_text lines reads slot law p known bad.Token n bytes t h
no_refusal lines reads slot law p known bad.Limit n bytes t h = no_text lines reads slot law p known bad.Limit n bytes t h
