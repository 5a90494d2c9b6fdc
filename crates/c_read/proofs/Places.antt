-- Where tokens are refused, by their words.
use Rattle.std.proofs.Common.{◌≡◌, ℕ, zero, suc, ◌<◌, ◌≤◌, Bool, true, false, [], ◌∷◌, ◌++◌, take, drop, length, get_or, refl, sym, ap, ◌∙◌, arith, subst, append_assoc, append-nil}
use Rattle.std.specs.Prelude.{◌↔◌, Some, None}
use Rattle.std.proofs.lemmas.List.{take-append-drop, take-take, length-take}
use Rattle.c_tree.specs.Depth.{depth, depth_limit}
use Rattle.c_tree.specs.Depths.{Depths, depths, greatest}
use Rattle.c_tree.specs.Spelling.{Texts}
use Rattle.c_tree.specs.Tree.{Signature, Program}
use Rattle.c_tree.specs.WellFormed.{IsInterface}
use Rattle.c_grammar.specs.Live.{IsSentence, IsLive, IsRefused}
use Rattle.c_grammar.specs.Sentence.{Words, words_of}
use Rattle.c_grammar.specs.Spelled.{AreWordsOf, IsSpelled, IsLiveText}
use Rattle.c_depth.specs.First.{IsFirstDeep}
use Rattle.c_depth.specs.Read.{word_depths}
use Rattle.c_read.specs.declared.refusal.CBad.TheVariants as bad
use Rattle.c_read.specs.Program.{IsUnfit, IsDeep, IsShallowTo, IsBadToken}
use Rattle.c_read.specs.Tokens.{IsProgramOf}

-- ---- what the laws below say

abbrev pub GoesByWords : Type 0
GoesByWords = (i : Signature) (p : Program) (ts : Texts) (ws : Words) → IsInterface i → AreWordsOf i ts ws → IsSentence i p ws ↔ IsSpelled i p ts

abbrev pub LiveByWords : Type 0
LiveByWords = (i : Signature) (ts : Texts) (ws : Words) → IsInterface i → AreWordsOf i ts ws → IsLive i ws ↔ IsLiveText i ts

abbrev pub DepthByWords : Type 0
DepthByWords = (i : Signature) (p : Program) (ts more : Texts) (ws : Words) (n : ℕ) → IsInterface i → AreWordsOf i ts ws → n < length ts
    → IsSpelled i p (take (suc n) ts ++ more) → get_or (depths p) n 0 ≡ get_or (word_depths ws) n 0

-- ---- texts and their words

pub as_many : (i : Signature) (ts : Texts) (ws : Words) → AreWordsOf i ts ws → length ts ≡ length ws
as_many i [] [] h = refl
as_many i [] (w ∷ ws) h = absurd h
as_many i (t ∷ ts) [] h = absurd h
as_many i (t ∷ ts) (w ∷ ws) h = ap suc (as_many i ts ws h.1)

front_words : (i : Signature) (n : ℕ) (ts : Texts) (ws : Words) → AreWordsOf i ts ws → AreWordsOf i (take n ts) (take n ws)
front_words i zero [] [] h = tt
front_words i (suc n) [] [] h = tt
front_words i n [] (w ∷ ws) h = absurd h
front_words i n (t ∷ ts) [] h = absurd h
front_words i zero (t ∷ ts) (w ∷ ws) h = tt
front_words i (suc n) (t ∷ ts) (w ∷ ws) h = (h.0, front_words i n ts ws h.1)

-- ---- deep tokens

-- a deep token has its depth by its words
deep_by_words : DepthByWords → (i : Signature) → IsInterface i → (ts : Texts) (ws : Words) → AreWordsOf i ts ws → (k : ℕ) → IsDeep i ts k → depth_limit < get_or (word_depths ws) k 0
deep_by_words law i it ts ws h k d =
    let e = law i d.live.program ts d.live.more ws k it h d.within d.live.spelled in
    let m = d.deep in
    omega arith

words_deep : LiveByWords → DepthByWords → (i : Signature) → IsInterface i → (ts : Texts) (ws : Words) → AreWordsOf i ts ws → (k : ℕ) → k < length ts
    → IsLive i (take (suc k) ws) → depth_limit < get_or (word_depths ws) k 0 → IsDeep i ts k
words_deep lives law i it ts ws h k m l d =
    let live = (lives i (take (suc k) ts) (take (suc k) ws) it (front_words i (suc k) ts ws h)).0 l in
    let e = law i live.program ts live.more ws k it h m live.spelled in
    record { within = m; live = live; deep = omega arith }

-- no token is deep up to the first deep one
none_before : DepthByWords → (i : Signature) → IsInterface i → (ts : Texts) (ws : Words) → AreWordsOf i ts ws → (n : ℕ)
    → ((k : ℕ) → k < n → get_or (word_depths ws) k 0 ≤ depth_limit) → IsShallowTo i ts n
none_before law i it ts ws h n shallow k m d = let a = deep_by_words law i it ts ws h k d in let b = shallow k m in omega arith

-- ---- words that are refused

longer : (i : Signature) (pre post : Words) → IsLive i (pre ++ post) → IsLive i pre
longer i pre post h = record { more = post ++ h.more; program = h.program; sentence = subst (IsSentence i h.program) (append_assoc pre post h.more) h.sentence }

shorter : (i : Signature) (k n : ℕ) (ws : Words) → k ≤ n → IsLive i (take n ws) → IsLive i (take k ws)
shorter i k n ws h l =
    let front = take n ws in
    let whole : front ≡ take k ws ++ drop k front = sym (take-append-drop k front) ∙ ap (λ us. us ++ drop k front) (take-take k n ws h) in
    longer i (take k ws) (drop k front) (subst (IsLive i) whole l)

unfit : GoesByWords → LiveByWords → (i : Signature) → IsInterface i → (ts : Texts) (ws : Words) → AreWordsOf i ts ws → (at_end : Bool) (n : ℕ) → IsRefused i ws n → IsUnfit i ts at_end n
unfit goes lives i it ts ws h at_end n r = let e = as_many i ts ws h in let m = r.within in record {
  within = omega arith;
  live = λ k. (lives i (take n ts) (take n ws) it (front_words i n ts ws h)).0 r.live;
  next = λ k l. r.next (omega arith) ((lives i (take (suc n) ts) (take (suc n) ws) it (front_words i (suc n) ts ws h)).1 l);
  none = λ f k p s. r.none p ((goes i p ts ws it h).1 s);
}

-- words that are refused, none of which is deep
pub refused_shallow : GoesByWords → LiveByWords → DepthByWords → (i : Signature) → IsInterface i → (ts : Texts) (ws : Words) → AreWordsOf i ts ws → (at_end : Bool) (n : ℕ)
    → IsFirstDeep None (word_depths ws) → IsRefused i ws n → IsBadToken bad.Token i ts at_end n
refused_shallow goes lives law i it ts ws h at_end n found r = (unfit goes lives i it ts ws h at_end n r, none_before law i it ts ws h n (λ k m. found k))

-- the first deep word of words that go on to a program with it
pub deep_live : LiveByWords → DepthByWords → (i : Signature) → IsInterface i → (ts : Texts) (ws : Words) → AreWordsOf i ts ws → (at_end : Bool) (first : ℕ)
    → length (word_depths ws) ≡ length ws → IsFirstDeep (Some first) (word_depths ws) → IsLive i (take (suc first) ws) → IsBadToken bad.Limit i ts at_end first
deep_live lives law i it ts ws h at_end first n found l =
    let e = as_many i ts ws h in
    let m = found.0 in
    (words_deep lives law i it ts ws h first (omega arith) l found.1, none_before law i it ts ws h first found.2)

-- ---- words of a program

front_live : (i : Signature) (p : Program) (ws : Words) (k : ℕ) → IsSentence i p ws → IsLive i (take k ws)
front_live i p ws k s = record { more = drop k ws; program = p; sentence = subst (IsSentence i p) (sym (take-append-drop k ws)) s }

-- ---- words up to the first deep one

-- a program that ends with it
pub deep_last : LiveByWords → DepthByWords → (i : Signature) → IsInterface i → (p : Program) (ts : Texts) (ws : Words) → AreWordsOf i ts ws → (at_end : Bool) (first : ℕ)
    → length (word_depths ws) ≡ length ws → IsFirstDeep (Some first) (word_depths ws) → IsSentence i p (take (suc first) ws) → IsBadToken bad.Limit i ts at_end first
deep_last lives law i it p ts ws h at_end first n found s =
    let front = take (suc first) ws in
    deep_live lives law i it ts ws h at_end first n found (record { more = []; program = p; sentence = subst (IsSentence i p) (sym (append-nil front)) s })

-- they are refused only behind it
pub deep_before : LiveByWords → DepthByWords → (i : Signature) → IsInterface i → (ts : Texts) (ws : Words) → AreWordsOf i ts ws → (at_end : Bool) (first n : ℕ) → first < n
    → length (word_depths ws) ≡ length ws → IsFirstDeep (Some first) (word_depths ws) → IsRefused i (take (suc first) ws) n → IsBadToken bad.Limit i ts at_end first
deep_before lives law i it ts ws h at_end first n m count found r =
    let front = take (suc first) ws in
    let whole = subst (IsLive i) (take-take (suc first) (suc first) ws (omega arith)) (shorter i (suc first) n front (omega arith) r.live) in
    deep_live lives law i it ts ws h at_end first count found whole

-- they are refused before it or at it, and so are all words
pub deep_behind : GoesByWords → LiveByWords → DepthByWords → (i : Signature) → IsInterface i → (ts : Texts) (ws : Words) → AreWordsOf i ts ws → (at_end : Bool) (first n : ℕ) → n ≤ first
    → length (word_depths ws) ≡ length ws → IsFirstDeep (Some first) (word_depths ws) → IsRefused i (take (suc first) ws) n → IsBadToken bad.Token i ts at_end n
deep_behind goes lives law i it ts ws h at_end first n m count found r =
    let within = found.0 in
    let long : n < length (take (suc first) ws) = omega (arith, length-take (suc first) ws) in
    let stuck : IsLive i (take (suc n) ws) → ⊥ = λ l. r.next long (subst (IsLive i) (sym (take-take (suc n) (suc first) ws (omega arith))) l) in
    let all : IsRefused i ws n = record {
      within = omega arith;
      live = subst (IsLive i) (take-take n (suc first) ws (omega arith)) r.live;
      next = λ k l. stuck l;
      none = λ p s. stuck (front_live i p ws (suc n) s);
    } in
    (unfit goes lives i it ts ws h at_end n all, none_before law i it ts ws h n (λ k l. found.2 k (omega arith)))

-- a program before a byte that begins no token
pub program_cut : LiveByWords → DepthByWords → (i : Signature) → IsInterface i → (p : Program) (ts : Texts) (ws : Words) → AreWordsOf i ts ws → (n : ℕ) → n ≡ length ws
    → IsFirstDeep None (word_depths ws) → IsSentence i p ws → IsBadToken bad.Token i ts false n
program_cut lives law i it p ts ws h n e found s = let f = as_many i ts ws h in (
  record {
    within = omega arith;
    live = λ k. (lives i (take n ts) (take n ws) it (front_words i n ts ws h)).0 (front_live i p ws n s);
    next = λ k l. absurd (omega arith);
    none = λ g k q r. absurd cc;
  },
  none_before law i it ts ws h n (λ k m. found k),
)

greatest_within : (limit : ℕ) (ds : Depths) → ((k : ℕ) → get_or ds k 0 ≤ limit) → greatest ds ≤ limit
greatest_within limit [] h = omega arith
greatest_within limit (d ∷ ds) h = let a = h 0 in let b = greatest_within limit ds (λ k. h (suc k)) in omega arith

-- a program without a deep word
pub program_shallow : GoesByWords → (i : Signature) → IsInterface i → (p : Program) (ts : Texts) (ws : Words) → AreWordsOf i ts ws → (at_end : Bool) → at_end ≡ true
    → greatest (depths p) ≡ depth p → word_depths (words_of p) ≡ depths p → IsFirstDeep None (word_depths ws) → IsSentence i p ws → IsProgramOf i p ts at_end
program_shallow goes i it p ts ws h at_end e g ds found s =
    let same : greatest (word_depths ws) ≡ depth p = ap (λ us. greatest (word_depths us)) (sym s.words) ∙ ap greatest ds ∙ g in
    let m = greatest_within depth_limit (word_depths ws) found in
    ((goes i p ts ws it h).0 s, e, omega arith)
