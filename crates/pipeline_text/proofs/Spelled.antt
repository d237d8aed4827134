-- Texts that are cut into the tokens of a grammar.
use Rattle.std.proofs.Common.{◌≡◌, ℕ, ◌+◌, ◌-◌, Bool, true, false, ◌&&◌, List, [], ◌∷◌, ◌++◌, length, map, Some, None, inl, inr, refl, sym, ap, subst, ◌∙◌, append_assoc, arith, add-zero}
use Rattle.std.specs.Prelude.{if◌then◌else◌, flat_map, codes}
use Rattle.std.proofs.lemmas.List.{append-nil}
use Rattle.grammar_model.specs.Syntax.{Syntax, token, ◌then◌, mapped, ◌▸◌, ◌◂◌, maybe, ◌or◌, many, WrittenMany, listed}
use Rattle.pipeline_text.specs.declared.token.Token.{Token}
use Rattle.pipeline_text.specs.declared.token.Kind.{Kind}
use Rattle.pipeline_text.specs.Kinds.{kind_of}
use Rattle.pipeline_text.specs.Words.{alone, byte_kind, closed, cut, in_word, is_blank, word_kind}
use Rattle.pipeline_text.specs.Printing.{joined}
use Rattle.pipeline_text.specs.Promises.{Ends, RunsAreWords, all_in_word}

-- behind it no word goes on, whatever follows that a word does not go on into
abbrev pub Shuts : List ℕ → Type 0
Shuts text = (rest : List ℕ) → Ends rest → Ends (text ++ rest)

-- at each place, before what no word goes on into, the text is cut into a way to write the value
abbrev pub Spells : {X : Type 0} → Syntax kind_of X → X → List ℕ → Type 0
Spells s x text = (at : ℕ) (rest : List ℕ) → Ends rest → (ts : List Token) × (place : ℕ) × s.Written x ts × (cut [] at (text ++ rest) ≡ ts ++ cut [] place rest)

-- Words

-- an open word ends where none goes on
cut_closed : (word : List ℕ) (at : ℕ) (rest : List ℕ) → Ends rest → cut word at rest ≡ closed word at ++ cut [] at rest
cut_closed word at [] h = sym (append-nil (closed word at))
cut_closed word at (b ∷ bs) h = rw h (append_assoc (closed word at) (alone at b) (cut [] (at + 1) bs))

pub both_left : (p q : Bool) → (p && q) ≡ true → p ≡ true
both_left true q h = refl
both_left false q h = absurd cc

pub both_right : (p q : Bool) → (p && q) ≡ true → q ≡ true
both_right true q h = h
both_right false q h = absurd cc

word_step : (word : List ℕ) (b : ℕ) (bytes : List ℕ) (at : ℕ) → in_word b ≡ true → cut word at (b ∷ bytes) ≡ cut (word ++ b ∷ []) (at + 1) bytes
word_step word b bytes at h = rw h refl

-- bytes of a word make the open one longer
cut_word : (word bytes : List ℕ) (at : ℕ) (rest : List ℕ) → all_in_word bytes ≡ true → cut word at (bytes ++ rest) ≡ cut (word ++ bytes) (at + length bytes) rest
cut_word word [] at rest h = rw (append-nil, add-zero) refl
cut_word word (b ∷ bytes) at rest h =
    let far : at + 1 + length bytes ≡ at + length (b ∷ bytes) = omega arith in
    word_step word b (bytes ++ rest) at (both_left (in_word b) (all_in_word bytes) h)
    ∙ cut_word (word ++ b ∷ []) bytes (at + 1) rest (both_right (in_word b) (all_in_word bytes) h)
    ∙ ap (λ (w : List ℕ). cut w (at + 1 + length bytes) rest) (append_assoc word (b ∷ []) bytes) ∙ ap (λ (n : ℕ). cut (word ++ b ∷ bytes) n rest) far

-- a whole word is one token, of the word's kind
pub runs_are_words : RunsAreWords
runs_are_words = λ at b bytes rest all ends.
    let start : at + length (b ∷ bytes) - length (b ∷ bytes) ≡ at = omega arith in
    cut_word [] (b ∷ bytes) at rest all ∙ cut_closed (b ∷ bytes) (at + length (b ∷ bytes)) rest ends ∙ rw start refl

-- Ways to make a grammar

pub spells_mapped : {X Y : Type 0} (f : X → Y) (s : Syntax kind_of X) (x : X) (text : List ℕ) → Spells s x text → Spells (mapped f s) (f x) text
spells_mapped f s x text h at rest ends = let (ts, place, w, e) = h at rest ends in (ts, place, (x, refl, w), e)

pub spells_then : {X Y : Type 0} (a : Syntax kind_of X) (b : Syntax kind_of Y) (x : X) (y : Y) (front back : List ℕ)
    → Spells a x front → Spells b y back → Shuts back → Spells (a then b) (x, y) (front ++ back)
spells_then a b x y front back ha hb shuts at rest ends =
    let (ts, mid, wa, ea) = ha at (back ++ rest) (shuts rest ends) in
    let (us, place, wb, eb) = hb mid rest ends in
    (ts ++ us, place, (ts, us, wa, wb, refl), rw append_assoc (ea ∙ rw eb (sym (append_assoc ts us (cut [] place rest)))))

pub spells_left : {X : Type 0} (a b : Syntax kind_of X) (x : X) (text : List ℕ) → Spells a x text → Spells (a or b) x text
spells_left a b x text h at rest ends = let (ts, place, w, e) = h at rest ends in (ts, place, inl w, e)

pub spells_right : {X : Type 0} (a b : Syntax kind_of X) (x : X) (text : List ℕ) → Spells b x text → Spells (a or b) x text
spells_right a b x text h at rest ends = let (ts, place, w, e) = h at rest ends in (ts, place, inr w, e)

pub spells_none : {X : Type 0} (s : Syntax kind_of X) → Spells (maybe s) None []
spells_none s at rest ends = ([], at, refl, refl)

pub spells_some : {X : Type 0} (s : Syntax kind_of X) (x : X) (text : List ℕ) → Spells s x text → Spells (maybe s) (Some x) text
spells_some s x text h = h

-- A token before or behind

-- a byte by itself is a token of the set
abbrev pub IsByte : (Kind → Bool) → ℕ → Type 0
IsByte p b = (in_word b ≡ false) × (is_blank b ≡ false) × (p (byte_kind b) ≡ true)

-- a text is a word of the set
abbrev pub IsWord : (Kind → Bool) → List ℕ → Type 0
IsWord p text = (all_in_word text ≡ true) × (p (word_kind text) ≡ true)

cut_byte : (b at : ℕ) (rest : List ℕ) → in_word b ≡ false → is_blank b ≡ false → cut [] at (b ∷ rest) ≡ record { kind = byte_kind b; start = at } ∷ cut [] (at + 1) rest
cut_byte b at rest h blank = rw (h, blank) refl

pub spells_before : {X : Type 0} (p : Kind → Bool) (s : Syntax kind_of X) (x : X) (b : ℕ) (text : List ℕ) → IsByte p b → Spells s x text → Spells (p ▸ s) x (b ∷ text)
spells_before p s x b text (h, blank, is) spelled at rest ends =
    let (ts, place, w, e) = spelled (at + 1) rest ends in
    let t : Token = record { kind = byte_kind b; start = at } in
    (t ∷ ts, place, ((t, x), refl, (t ∷ [], ts, (is, refl), w, refl)), cut_byte b at (text ++ rest) h blank ∙ ap (λ (us : List Token). t ∷ us) e)

pub spells_behind : {X : Type 0} (p : Kind → Bool) (s : Syntax kind_of X) (x : X) (b : ℕ) (text : List ℕ) → IsByte p b → Spells s x text → Spells (s ◂ p) x (text ++ b ∷ [])
spells_behind p s x b text (h, blank, is) spelled at rest ends =
    let (ts, place, w, e) = spelled at (b ∷ rest) h in
    let t : Token = record { kind = byte_kind b; start = place } in (
      ts ++ t ∷ [],
      place + 1,
      ((x, t), refl, (ts, t ∷ [], w, (is, refl), refl)),
      rw append_assoc (e ∙ ap (λ (us : List Token). ts ++ us) (cut_byte b place rest h blank) ∙ sym (append_assoc ts (t ∷ []) (cut [] (place + 1) rest))),
    )

cut_token : (p : Kind → Bool) (text : List ℕ) (at : ℕ) (rest : List ℕ) → IsWord p text → p (word_kind []) ≡ false → Ends rest
    → (t : Token) × (place : ℕ) × (t.kind ≡ word_kind text) × (cut [] at (text ++ rest) ≡ t ∷ cut [] place rest)
cut_token p [] at rest (all, is) other ends = absurd cc
cut_token p (b ∷ bytes) at rest (all, is) other ends =
    let t : Token = record { kind = word_kind (b ∷ bytes); start = at } in
    (t, at + length (b ∷ bytes), refl, runs_are_words at b bytes rest all ends)

pub spells_word : (p : Kind → Bool) {X : Type 0} (view : Token → X) (text : List ℕ) (x : X) → IsWord p text → p (word_kind []) ≡ false
    → ((t : Token) → t.kind ≡ word_kind text → view t ≡ x) → Spells (mapped view (token p)) x text
spells_word p view text x word other views at rest ends =
    let (t, place, k, e) = cut_token p text at rest word other ends in
    (t ∷ [], place, (t, views t k, (rw k word.1, refl)), e)

pub spells_before_word : {X : Type 0} (p : Kind → Bool) (s : Syntax kind_of X) (x : X) (front text : List ℕ) → IsWord p front → p (word_kind []) ≡ false → Shuts text
    → Spells s x text → Spells (p ▸ s) x (front ++ text)
spells_before_word p s x front text word other shuts spelled at rest ends =
    let (t, mid, k, e) = cut_token p front at (text ++ rest) word other (shuts rest ends) in
    let (ts, place, w, ew) = spelled mid rest ends in
    (t ∷ ts, place, ((t, x), refl, (t ∷ [], ts, (rw k word.1, refl), w, refl)), rw append_assoc (e ∙ ap (λ (us : List Token). t ∷ us) ew))

-- Lists

tail_text : {X : Type 0} → (X → List ℕ) → List X → List ℕ
tail_text f xs = flat_map (λ u. codes "," ++ u) (map f xs)

tail_shuts : {X : Type 0} (f : X → List ℕ) (xs : List X) → Shuts (tail_text f xs)
unfolding tail_text
tail_shuts f [] rest ends = ends
tail_shuts f (x ∷ xs) rest ends = refl

-- one more piece, before those behind it
spells_more : {X : Type 0} (s : Syntax kind_of X) (x : X) (xs : List X) (front back : List ℕ) → Spells s x front → Spells (many s) xs back → Shuts back → Spells (many s) (x ∷ xs) (front ++ back)
spells_more s x xs front back ha hb shuts at rest ends =
    let (ts, mid, wa, ea) = ha at (back ++ rest) (shuts rest ends) in
    let (us, place, wb, eb) = hb mid rest ends in
    (ts ++ us, place, (ts, us, wa, wb, refl), rw append_assoc (ea ∙ rw eb (sym (append_assoc ts us (cut [] place rest)))))

spells_tail : {X : Type 0} (p : Kind → Bool) (s : Syntax kind_of X) (f : X → List ℕ) → IsByte p 44 → ((x : X) (ts : List Token) → s.Written x ts → Spells s x (f x))
    → (xs : List X) (ts : List Token) → WrittenMany (p ▸ s) xs ts → Spells (many (p ▸ s)) xs (tail_text f xs)
unfolding tail_text
spells_tail p s f comma again [] ts w = λ at rest ends. ([], at, refl, refl)
spells_tail p s f comma again (x ∷ xs) ts (front, back, (pair, e, (a, b, wt, ws, eq)), wm, whole) =
    spells_more (p ▸ s) x xs (44 ∷ f x) (tail_text f xs)
    (spells_before p s x 44 (f x) comma (again x b (subst (λ y. s.Written y b) e ws)))
    (spells_tail p s f comma again xs back wm) (tail_shuts f xs)

pub spells_listed : {X : Type 0} (p : Kind → Bool) (s : Syntax kind_of X) (f : X → List ℕ) → IsByte p 44 → ((x : X) (ts : List Token) → s.Written x ts → Spells s x (f x))
    → (xs : List X) (ts : List Token) → (listed p s).Written xs ts → Spells (listed p s) xs (joined (map f xs))
unfolding tail_text
spells_listed p s f comma again xs ts (None, e, w) = subst (λ ys. Spells (listed p s) ys (joined (map f ys))) e (λ at rest ends. ([], at, (None, refl, refl), refl))
spells_listed p s f comma again xs ts (Some ys, e, ((x, others), e2, (front, back, wx, wo, whole))) =
    subst (λ zs. Spells (listed p s) zs (joined (map f zs))) (e2 ∙ e)
    (λ at rest ends.
    let (us, place, w, cuts) = spells_then s (many (p ▸ s)) x others (f x) (tail_text f others) (again x front wx) (spells_tail p s f comma again others back wo) (tail_shuts f others) at rest ends in
    (us, place, (Some (x ∷ others), refl, ((x, others), refl, w)), cuts))
