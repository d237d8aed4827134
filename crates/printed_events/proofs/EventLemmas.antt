-- The events of the text of words, one by one.
use Rattle.std.proofs.Common.{◌≡◌, ℕ, suc, ◌+◌, ◌-◌, Bool, true, false, not, cond, List, [], ◌∷◌, ◌++◌, map, length, take, drop, Option, Some, None, refl, sym, ap, ◌∙◌, arith, append_assoc, length-append}
use Rattle.std.specs.Prelude.{slice_get, position, if◌then◌else◌}
use Rattle.std.specs.List.{position_from}
use Rattle.std.specs.Option.{unwrap_or}
use Rattle.std.specs.Str.{bytes_eq}
use Rattle.std.proofs.lemmas.Iterator.Adapters.{position_from-zero}
use Rattle.std.proofs.lemmas.Slice.Eq.{bytes_eq-Decides}
use Rattle.mlir_lex.proofs.Lengths.{and-right}
use Rattle.text_grammar.specs.declared.kinds.Kind.{Kind}
use Rattle.text_grammar.specs.declared.places.Place.{Place}
use Rattle.text_grammar.specs.declared.places.Place.TheVariants as places
use Rattle.text_grammar.specs.declared.words.Word.{Word}
use Rattle.text_events.specs.Spelling.{piece, spelled, core, unescaped}
use Rattle.text_events.specs.Names.{is_sign, spells, name_of, names_from}
use Rattle.text_events.specs.Source.{bytes_of, piece_or, spelled_of, spelled_or, number_in, number_of, index_of, size_of, width_of, is_void, is_own, events_from}
use Rattle.text_types.specs.Spelling.{Spelling}
use Rattle.event_trees.specs.Wording.{Wording, wording_of}
use Rattle.printed_words.specs.Words.{PrintedWord, text_of, word_at, words_from}
use Rattle.printed_terms.specs.Told.{Told, no_words, one_more, Says, width_in, size_in, index_in, is_void_in}
use Rattle.printed_terms.specs.Told as told
use Rattle.printed_events.specs.Events.{spelling_in, WordsAreTold}

-- Lists

at_length : {X : Type 0} (xs ys : List X) (y : X) → slice_get (xs ++ y ∷ ys) (length xs) ≡ Some y
at_length [] ys y = refl
at_length (x ∷ xs) ys y = at_length xs ys y

-- the element at the first place where a test passes
record Found {X : Type 0} (p : X → Bool) (n : ℕ) (xs : List X) (k : ℕ) : Type 0 where
  index : ℕ
  is : k ≡ n + index
  element : X
  there : slice_get xs index ≡ Some element
  passes : p element ≡ true

found : {X : Type 0} (p : X → Bool) (n : ℕ) (xs : List X) (k : ℕ) → position_from p n xs ≡ Some k → Found p n xs k
found p n [] k e = absurd (none_is k e)
  where
    none_is : (k : ℕ) → ◌≡◌ {A = Option ℕ} None (Some k) → ⊥
    none_is k e = cc
found p n (x ∷ xs) k e = by_test (p x) refl e (λ h. found p (n + 1) xs k h)
  where
    by_test : (t : Bool) → p x ≡ t → cond t (Some n) (position_from p (n + 1) xs) ≡ Some k → (position_from p (n + 1) xs ≡ Some k → Found p (n + 1) xs k) → Found p n (x ∷ xs) k
    by_test true h e deep = let same : n ≡ k = cc in record { index = 0; is = omega arith; element = x; there = refl; passes = h }
    by_test false h e deep = let d = deep e in record { index = suc d.index; is = omega (arith, d.is); element = d.element; there = d.there; passes = d.passes }

take-front : (xs ys : List ℕ) → take (length xs) (xs ++ ys) ≡ xs
take-front [] ys = refl
take-front (x ∷ xs) ys = ap (λ zs. x ∷ zs) (take-front xs ys)

drop-front : (xs ys : List ℕ) → drop (length xs) (xs ++ ys) ≡ ys
drop-front [] ys = refl
drop-front (x ∷ xs) ys = drop-front xs ys

-- the bytes of a word
piece_is : (text prefix gap bytes rest : List ℕ) (at : ℕ) → text ≡ prefix ++ (gap ++ (bytes ++ rest)) → at ≡ length prefix → take (at + length gap + length bytes - (at + length gap)) (drop (at + length gap) text) ≡ bytes
piece_is text prefix gap bytes rest at is here =
    let n : at + length gap + length bytes - (at + length gap) ≡ length bytes = omega arith in
    let s : at + length gap ≡ length (prefix ++ gap) = omega (arith, length-append prefix gap) in
    let t : text ≡ (prefix ++ gap) ++ (bytes ++ rest) = is ∙ sym (append_assoc prefix gap (bytes ++ rest)) in
    ap (λ m. take m (drop (at + length gap) text)) n ∙ ap (λ m. take (length bytes) (drop m text)) s ∙ ap (λ x. take (length bytes) (drop (length (prefix ++ gap)) x)) t
    ∙ ap (take (length bytes)) (drop-front (prefix ++ gap) (bytes ++ rest)) ∙ take-front bytes rest

-- what an event says, by what its own number and its name stand for
record Facts (sp : Spelling) (wd : Wording) (kind : Kind) (bytes : List ℕ) (own name : ℕ) : Type 0 where
  width : sp.width own ≡ width_in bytes
  size : sp.size own ≡ size_in bytes
  number : sp.number own ≡ number_in bytes
  void : sp.is_void own ≡ is_void_in bytes
  value : wd.number own ≡ number_in bytes
  index : wd.index own ≡ index_in bytes
  spelled_own : wd.spelled own ≡ told.spells kind bytes
  spelled_name : wd.spelled name ≡ told.spells kind bytes

says : (sp : Spelling) (wd : Wording) (place : Place) (kind : Kind) (bytes : List ℕ) (own name : ℕ) → Facts sp wd kind bytes own name → Says sp wd place kind bytes (if is_own place then own else name)
says sp wd places.IntegerWord kind bytes own name f = f.width
says sp wd places.ElementWord kind bytes own name f = f.width
says sp wd places.NumbersWidth kind bytes own name f = f.width
says sp wd places.LlvmPlain kind bytes own name f = f.void
says sp wd places.InnerPlain kind bytes own name f = f.void
says sp wd places.ArrayNumber kind bytes own name f = f.number
says sp wd places.DimensionSize kind bytes own name f = f.size
says sp wd places.IntegerNumber kind bytes own name f = f.value
says sp wd places.ListedNumber kind bytes own name f = f.value
says sp wd places.TextAttr kind bytes own name f = f.spelled_name
says sp wd places.Symbol kind bytes own name f = f.spelled_name
says sp wd places.BoolWord kind bytes own name f = f.spelled_name
says sp wd places.EntryName kind bytes own name f = f.spelled_name
says sp wd places.DialectName kind bytes own name f = f.spelled_name
says sp wd places.DialectWord kind bytes own name f = f.spelled_name
says sp wd places.OpName kind bytes own name f = f.spelled_own
says sp wd places.ResultName kind bytes own name f = f.spelled_name
says sp wd places.UseName kind bytes own name f = f.spelled_name
says sp wd places.ArgName kind bytes own name f = f.spelled_name
says sp wd places.BlockLabel kind bytes own name f = f.spelled_name
says sp wd places.SuccessorName kind bytes own name f = f.spelled_name
says sp wd places.ResultNumber kind bytes own name f = f.number
says sp wd places.UseNumber kind bytes own name f = f.index
says sp wd _ kind bytes own name f = tt

module _ (text : List ℕ) (words : List Word) where
  -- a word's name stands for a word that spells the same
  pub name_spells : (i : ℕ) (w : Word) → slice_get words i ≡ Some w → spelled_of text words (name_of text words i w) ≡ spelled text w
  name_spells i w there = by_sign (is_sign w.kind) (position (spells text (spelled text w)) words) (sym (position_from-zero (spells text (spelled text w)) words))
    where
      by_sign : (s : Bool) (o : Option ℕ) → position_from (spells text (spelled text w)) 0 words ≡ o → spelled_or text (slice_get words (if s then i else unwrap_or o i)) ≡ spelled text w
      by_sign true o e = ap (spelled_or text) there
      by_sign false None e = ap (spelled_or text) there
      by_sign false (Some k) e =
          let f = found (spells text (spelled text w)) 0 words k e in
          let k_is : k ≡ f.index = omega (arith, f.is) in
          let same : bytes_eq (spelled text f.element) (spelled text w) ≡ true = and-right (not (is_sign f.element.kind)) _ f.passes in
          ap (λ j. spelled_or text (slice_get words j)) k_is ∙ ap (spelled_or text) f.there ∙ (bytes_eq-Decides (spelled text f.element) (spelled text w)).0 same

  own_width : (i : ℕ) (bytes : List ℕ) → bytes_of text words i ≡ bytes → width_of text words i ≡ width_in bytes
  unfolding width_of
  own_width i bytes e = ap width_in e

  own_size : (i : ℕ) (bytes : List ℕ) → bytes_of text words i ≡ bytes → size_of text words i ≡ size_in bytes
  unfolding size_of
  own_size i bytes e = ap size_in e

  own_number : (i : ℕ) (bytes : List ℕ) → bytes_of text words i ≡ bytes → number_of text words i ≡ number_in bytes
  unfolding number_of
  own_number i bytes e = ap number_in e

  own_index : (i : ℕ) (bytes : List ℕ) → bytes_of text words i ≡ bytes → index_of text words i ≡ index_in bytes
  unfolding index_of
  own_index i bytes e = ap index_in e

  own_void : (i : ℕ) (bytes : List ℕ) → bytes_of text words i ≡ bytes → is_void text words i ≡ is_void_in bytes
  unfolding is_void
  own_void i bytes e = ap is_void_in e

  spelled_is : (w : Word) (bytes : List ℕ) → piece text w ≡ bytes → spelled text w ≡ told.spells w.kind bytes
  unfolding spelled
  spelled_is w bytes e = ap (λ b. unescaped (core w.kind b)) e

  facts : (i : ℕ) (w : Word) (bytes : List ℕ) → slice_get words i ≡ Some w → piece text w ≡ bytes → Facts (spelling_in text words) (wording_of text words) w.kind bytes i (name_of text words i w)
  facts i w bytes there is =
      let own : bytes_of text words i ≡ bytes = ap (piece_or text) there ∙ is in
      record {
        width = own_width i bytes own;
        size = own_size i bytes own;
        number = own_number i bytes own;
        void = own_void i bytes own;
        value = own_number i bytes own;
        index = own_index i bytes own;
        spelled_own = ap (spelled_or text) there ∙ spelled_is w bytes is;
        spelled_name = name_spells i w there ∙ spelled_is w bytes is;
      }

  told_from : (ws : List PrintedWord) (end : List ℕ) (front : List Word) (prefix : List ℕ) (own at : ℕ) → words ≡ front ++ words_from at ws → text ≡ prefix ++ text_of ws end → own ≡ length front → at ≡ length prefix
      → Told (spelling_in text words) (wording_of text words) ws (events_from own (map (λ w. w.place) ws) (names_from text words own (words_from at ws)))
  told_from [] end front prefix own at all is o a = no_words
  told_from (w ∷ ws) end front prefix own at all is o a =
      let v : Word = word_at (at + length w.gap) w in
      let next : ℕ = at + length w.gap + length w.bytes in
      let there : slice_get words own ≡ Some v = ap (slice_get words) o ∙ ap (λ xs. slice_get xs (length front)) all ∙ at_length front (words_from next ws) v in
      let bytes : piece text v ≡ w.bytes = piece_is text prefix w.gap w.bytes (text_of ws end) at is a in
      let more = told_from ws end (front ++ v ∷ []) (prefix ++ (w.gap ++ w.bytes)) (own + 1) next
      (all ∙ sym (append_assoc front (v ∷ []) (words_from next ws)))
      (is ∙ ap (λ x. prefix ++ x) (sym (append_assoc w.gap w.bytes (text_of ws end))) ∙ sym (append_assoc prefix (w.gap ++ w.bytes) (text_of ws end)))
      (omega (arith, length-append front (v ∷ [])))
      (omega (arith, length-append prefix (w.gap ++ w.bytes), length-append w.gap w.bytes)) in
      one_more w (if is_own w.place then own else name_of text words own v) (says (spelling_in text words) (wording_of text words) w.place w.kind w.bytes own (name_of text words own v) (facts own v w.bytes there bytes)) more

pub words_are_told : WordsAreTold
words_are_told ws end = told_from (text_of ws end) (words_from 0 ws) ws end [] [] 0 0 refl refl refl refl
