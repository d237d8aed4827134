-- The words of types keep what each word keeps.
use Rattle.std.proofs.Common.{◌≡◌, ℕ, Bool, true, false, List, [], ◌∷◌, refl}
use Rattle.std.specs.Prelude.{codes}
use Rattle.tree_model.specs.declared.type_tree.Dim.{Dim}
use Rattle.plain_tree.specs.Types.{PlainType, PlainTypes, Int, Index, Memref, Func, Ptr, Void, Struct, Array, LlvmFunc, end_of_types, more_types}
use Rattle.text_grammar.specs.declared.places.Place.{Place}
use Rattle.text_grammar.specs.declared.places.Place.TheVariants as places
use Rattle.printed_words.specs.Words.{PrintedWord}
use Rattle.printed_types.specs.TypeWords.{type_words, types_words, more_words, results_words, dim_words, plain_word, struct_word, array_word, function_word, is_function}
use Rattle.printed_marks.proofs.Kept.{is_simple, Kept, either}

module _ (P : List PrintedWord → Type 0) (k : Kept P) where
  plain_word_kept : (inside : Bool) (gap name : List ℕ) (rest : List PrintedWord) → P rest → P (plain_word inside gap name ∷ rest)
  plain_word_kept true gap name rest h = k.on _ _ _ _ _ refl h
  plain_word_kept false gap name rest h = k.on _ _ _ _ _ refl h

  struct_kept : (inside : Bool) (gap : List ℕ) (rest : List PrintedWord) → P rest → P (struct_word inside gap ∷ rest)
  struct_kept true gap rest h = k.on _ _ _ _ _ refl h
  struct_kept false gap rest h = k.on _ _ _ _ _ refl h

  array_kept : (inside : Bool) (gap : List ℕ) (rest : List PrintedWord) → P rest → P (array_word inside gap ∷ rest)
  array_kept true gap rest h = k.on _ _ _ _ _ refl h
  array_kept false gap rest h = k.on _ _ _ _ _ refl h

  function_kept : (inside : Bool) (gap : List ℕ) (rest : List PrintedWord) → P rest → P (function_word inside gap ∷ rest)
  function_kept true gap rest h = k.on _ _ _ _ _ refl h
  function_kept false gap rest h = k.on _ _ _ _ _ refl h

  dims_kept : (ds : List Dim) (rest : List PrintedWord) → P rest → P (dim_words ds rest)
  dims_kept [] rest h = h
  dims_kept (d ∷ ds) rest h = k.on _ _ _ _ _ refl (k.on _ _ _ _ _ refl (dims_kept ds rest h))

  mutual
    pub type_kept : (inside : Bool) (at : Place) (gap : List ℕ) (t : PlainType) (rest : List PrintedWord) → is_simple at ≡ true → P rest → P (type_words inside at gap t rest)
    type_kept inside at gap (Int width) rest p h = k.on _ _ at _ _ p h
    type_kept inside at gap Index rest p h = k.on _ _ at _ _ p h
    type_kept inside at gap (Memref dims element) rest p h =
        k.on _ _ _ _ _ refl (k.on _ _ _ _ _ refl (dims_kept dims _ (type_kept inside places.ElementWord [] element _ refl (k.on _ _ _ _ _ refl h))))
    type_kept inside at gap (Func inputs results) rest p h =
        k.on _ _ _ _ _ refl (types_kept inside inputs _ (k.arrow _ _ _ _ _ _ _ (results_kept inside results rest h)))
    type_kept inside at gap Ptr rest p h = plain_word_kept inside gap (codes "ptr") rest h
    type_kept inside at gap Void rest p h = plain_word_kept inside gap (codes "void") rest h
    type_kept inside at gap (Struct fields) rest p h =
        struct_kept inside gap _ (k.on _ _ _ _ _ refl (k.on _ _ _ _ _ refl (types_kept true fields _ (k.on _ _ _ _ _ refl (k.on _ _ _ _ _ refl h)))))
    type_kept inside at gap (Array n element) rest p h =
        array_kept inside gap _ (k.on _ _ _ _ _ refl (k.on _ _ _ _ _ refl (k.on _ _ _ _ _ refl (type_kept true places.IntegerWord (codes " ") element _ refl (k.on _ _ _ _ _ refl h)))))
    type_kept inside at gap (LlvmFunc output inputs) rest p h =
        function_kept inside gap _ (k.on _ _ _ _ _ refl (type_kept true places.IntegerWord [] output _ refl (k.on _ _ _ _ _ refl (types_kept true inputs _ (k.on _ _ _ _ _ refl (k.on _ _ _ _ _ refl h))))))

    pub types_kept : (inside : Bool) (ts : PlainTypes) (rest : List PrintedWord) → P rest → P (types_words inside ts rest)
    types_kept inside end_of_types rest h = h
    types_kept inside (more_types t ts) rest h = type_kept inside places.IntegerWord [] t _ refl (more_kept inside ts rest h)

    pub more_kept : (inside : Bool) (ts : PlainTypes) (rest : List PrintedWord) → P rest → P (more_words inside ts rest)
    more_kept inside end_of_types rest h = h
    more_kept inside (more_types t ts) rest h = k.on _ _ _ _ _ refl (type_kept inside places.IntegerWord (codes " ") t _ refl (more_kept inside ts rest h))

    pub results_kept : (inside : Bool) (ts : PlainTypes) (rest : List PrintedWord) → P rest → P (results_words inside ts rest)
    results_kept inside end_of_types rest h = k.on _ _ _ _ _ refl (k.closing _ _ _ _ h)
    results_kept inside (more_types t end_of_types) rest h =
        either P (is_function t) _ _ (k.on _ _ _ _ _ refl (type_kept inside places.IntegerWord [] t _ refl (k.closing _ _ _ _ h))) (type_kept inside places.IntegerWord (codes " ") t rest refl h)
    results_kept inside (more_types t (more_types u us)) rest h =
        k.on _ _ _ _ _ refl (type_kept inside places.IntegerWord [] t _ refl (k.on _ _ _ _ _ refl (type_kept inside places.IntegerWord (codes " ") u _ refl (more_kept inside us _ (k.closing _ _ _ _ h)))))
