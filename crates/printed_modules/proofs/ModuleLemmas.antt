-- The words of a module: their text, their cut and their form.
use Rattle.std.proofs.Common.{◌≡◌, inr, ℕ, ◌+◌, Bool, true, false, List, [], ◌∷◌, ◌++◌, map, length, refl, sym, ap, ◌∙◌, subst, append_assoc}
use Rattle.std.specs.Prelude.{codes, flat_map, None}
use Rattle.std.specs.List.{list_all}
use Rattle.mlir_lex.specs.Bytes.{is_blank, is_letter, is_digit, starts_suffix, is_suffix_byte}
use Rattle.mlir_lex.specs.Tokens.{IsName, IsSuffix}
use Rattle.mlir_lex.specs.Scan.{begins}
use Rattle.mlir_lex.proofs.Lengths.{and-left, and-right}
use Rattle.plain_tree.specs.Attrs.{dict_in, entries_tree}
use Rattle.plain_tree.specs.Ops.{Op, op_tree, func_tree, PlainModule}
use Rattle.tree_text.specs.NameText.{string_text}
use Rattle.text_model.specs.PrintedOps.{op_text, props_text, attrs_text}
use Rattle.text_model.specs.Printed.{func_text, funcs_text}
use Rattle.line_grammar.proofs.Theorems.{gives_only}
use Rattle.text_grammar.specs.declared.kinds.Kind.TheVariants as kinds
use Rattle.text_grammar.specs.declared.places.Place.TheVariants as places
use Rattle.text_grammar.specs.declared.parts.Part.TheVariants as parts
use Rattle.text_grammar.specs.declared.cuts.Mode.TheVariants.{Plain}
use Rattle.text_grammar.specs.Table.{Wanted, at, some}
use Rattle.text_grammar.specs.Text.{start}
use Rattle.text_grammar.specs.Steps.{kind_of}
use Rattle.text_grammar.specs.Words.{AreWords}
use Rattle.text_grammar.proofs.Generic.{generic_ll}
use Rattle.printed_words.specs.Words.{PrintedWord, word, sign, text_of, words_from, are_blanks, AreApart, no_word, AreRead}
use Rattle.printed_words.proofs.CutLemmas.{words_are_cut}
use Rattle.printed_words.proofs.ReadLemmas.{has_at, nothing, took, opened, left}
use Rattle.printed_words.proofs.WordLemmas.{apart, free-colon, open-paren, close-paren, open-brace, close-brace, colon, arrow, block-name, text, one_blank}
use Rattle.printed_attrs.specs.Readable.{is_readable_dict}
use Rattle.printed_attrs.proofs.StringLemmas.{string_is}
use Rattle.printed_ops.specs.OpWords.{attrs_words, open_word, close_word}
use Rattle.printed_ops.specs.Named.{is_known_op}
use Rattle.printed_ops.proofs.TextLemmas.{op_lines, props_are, attrs_are}
use Rattle.printed_ops.proofs.ReadLemmas.{op_read, ops_have, props_read, attrs_read}
use Rattle.printed_ops.proofs.ApartLemmas.{OnLine, op_apart, props_apart, attrs_apart, no_colon, close_on}
use Rattle.printed_modules.specs.ModuleWords.{own_names, more_funcs, body_words, module_words, is_known, places_of, TextOfModules, ModulesAreCut, ModulesAreRead}

abbrev known_func : Op → Bool
known_func f = is_known_op (own_names f) f

-- Text

more_lines : (fs : List Op) (rest : List PrintedWord) (end next : List ℕ) → list_all known_func fs ≡ true → text_of rest end ≡ 10 ∷ next → text_of (more_funcs fs rest) end ≡ 10 ∷ (flat_map func_text (map func_tree fs) ++ next)
more_lines [] rest end next h line = line
more_lines (f ∷ fs) rest end next h line =
    let more = flat_map func_text (map func_tree fs) in
    op_lines (own_names f) (codes "  ") f (more_funcs fs rest) end (more ++ next) (and-left _ _ h) (more_lines fs rest end next (and-right (known_func f) _ h) line)
    ∙ ap (λ x. 10 ∷ x) (sym (append_assoc (op_text (own_names f) (op_tree f) (codes "  ")) more next))

body_lines : (fs : List Op) (rest : List PrintedWord) (end next : List ℕ) → list_all known_func fs ≡ true → text_of rest end ≡ 10 ∷ next → text_of (body_words fs rest) end ≡ 10 ∷ (funcs_text (map func_tree fs) ++ next)
body_lines [] rest end next h line = ap (λ x. codes "\n^bb0:" ++ x) line
body_lines (f ∷ fs) rest end next h line = more_lines (f ∷ fs) rest end next h line

module_form : (a p b f c d e : List ℕ) → a ++ (p ++ (b ++ (f ++ (c ++ (d ++ e))))) ≡ a ++ p ++ b ++ f ++ c ++ d ++ e
module_form a p b f c d e = simp append_assoc

pub text_of_modules : TextOfModules
text_of_modules m h =
    let after : List PrintedWord = word (codes " ") places.SignatureColon kinds.Colon (codes ":") ∷ word (codes " ") places.SignatureOpen kinds.OpenParen (codes "(") ∷ sign places.SignatureClose kinds.CloseParen (codes ")")
    ∷ word (codes " ") places.SignatureArrow kinds.Arrow (codes "->") ∷ word (codes " ") places.ResultsOpen kinds.OpenParen (codes "(") ∷ sign places.ResultsClose kinds.CloseParen (codes ")") ∷ [] in
    let ending : List PrintedWord = close_word [] ∷ sign places.RegionsClose kinds.CloseParen (codes ")") ∷ attrs_words m.attrs after in
    let middle : List PrintedWord = word (codes " ") places.RegionsOpen kinds.OpenParen (codes "(") ∷ open_word [] ∷ body_words m.funcs ending in
    let funcs = and-right (is_readable_dict (dict_in m.attrs)) _ (and-right (is_readable_dict (dict_in m.props)) _ h) in
    let lead = codes "\"builtin.module\"()" in
    let p = props_text (entries_tree m.props) in
    let f = funcs_text (map func_tree m.funcs) in
    let a = attrs_text (entries_tree m.attrs) in
    sym (ap (λ x. lead ++ x) (props_are m.props middle (codes "\n"))
    ∙ ap (λ x. lead ++ (p ++ (codes " ({" ++ x))) (body_lines m.funcs ending (codes "\n") (codes "})" ++ text_of (attrs_words m.attrs after) (codes "\n")) funcs refl)
    ∙ ap (λ x. lead ++ (p ++ (codes " ({\n" ++ (f ++ (codes "})" ++ x))))) (attrs_are m.attrs after (codes "\n"))
    ∙ module_form lead p (codes " ({\n") f (codes "})") a (codes " : () -> ()\n"))

-- Apart

line_blank : are_blanks (codes "\n") ≡ true
unfolding is_blank
line_blank = refl

two_blanks : are_blanks (codes "  ") ≡ true
unfolding is_blank
two_blanks = refl

blank-colon : (rest : List ℕ) → begins 58 (32 ∷ rest) ≡ false
unfolding begins
blank-colon rest = refl

more_on : (fs : List Op) (rest : List PrintedWord) (end : List ℕ) → list_all known_func fs ≡ true → OnLine rest end → OnLine (more_funcs fs rest) end
more_on fs rest end h line = record { next = _; is = more_lines fs rest end line.next h line.is }

more_apart : (fs : List Op) (rest : List PrintedWord) (end : List ℕ) → list_all known_func fs ≡ true → OnLine rest end → AreApart Plain rest end → AreApart Plain (more_funcs fs rest) end
more_apart [] rest end f line h = h
more_apart (o ∷ fs) rest end f line h =
    op_apart (own_names o) (codes "  ") o _ end (and-left _ _ f) two_blanks (more_on fs rest end (and-right (known_func o) _ f) line) (more_apart fs rest end (and-right (known_func o) _ f) line h)

zero_name : IsName 94 (codes "^bb0")
unfolding IsName IsSuffix starts_suffix is_suffix_byte is_letter is_digit
zero_name = (codes "bb0", refl, inr refl)

body_apart : (fs : List Op) (rest : List PrintedWord) (end : List ℕ) → list_all known_func fs ≡ true → OnLine rest end → AreApart Plain rest end → AreApart Plain (body_words fs rest) end
body_apart [] rest end f line h =
    apart (codes "\n") places.BlockLabel kinds.Label (codes "^bb0") line_blank (block-name (codes "^bb0") _ zero_name (free-colon _)) (apart [] places.BlockColon kinds.Colon (codes ":") refl (colon Plain _ (no_colon line)) h)
body_apart (o ∷ fs) rest end f line h = more_apart (o ∷ fs) rest end f line h

module_apart : (m : PlainModule) → is_known m ≡ true → AreApart Plain (module_words m) (codes "\n")
module_apart m h =
    let others = and-right (is_readable_dict (dict_in m.props)) _ h in
    let end : List ℕ = codes "\n" in
    apart [] places.OpName kinds.Text (string_text (codes "builtin.module")) refl (text (string_text (codes "builtin.module")) _ (string_is (codes "builtin.module") refl))
    (apart [] places.OperandsOpen kinds.OpenParen (codes "(") refl (open-paren Plain _)
    (apart [] places.OperandsClose kinds.CloseParen (codes ")") refl (close-paren Plain _)
    (props_apart m.props _ end (and-left _ _ h)
    (apart (codes " ") places.RegionsOpen kinds.OpenParen (codes "(") one_blank (open-paren Plain _)
    (apart [] places.RegionOpen kinds.OpenBrace (codes "{") refl (open-brace Plain _)
    (body_apart m.funcs _ end (and-right (is_readable_dict (dict_in m.attrs)) _ others) (close_on [] _ end)
    (apart (codes "\n") places.RegionClose kinds.CloseBrace (codes "}") line_blank (close-brace Plain _)
    (apart [] places.RegionsClose kinds.CloseParen (codes ")") refl (close-paren Plain _)
    (attrs_apart m.attrs _ end (and-left _ _ others)
    (apart (codes " ") places.SignatureColon kinds.Colon (codes ":") one_blank (colon Plain _ (blank-colon _))
    (apart (codes " ") places.SignatureOpen kinds.OpenParen (codes "(") one_blank (open-paren Plain _)
    (apart [] places.SignatureClose kinds.CloseParen (codes ")") refl (close-paren Plain _)
    (apart (codes " ") places.SignatureArrow kinds.Arrow (codes "->") one_blank (arrow Plain _)
    (apart (codes " ") places.ResultsOpen kinds.OpenParen (codes "(") one_blank (open-paren Plain _)
    (apart [] places.ResultsClose kinds.CloseParen (codes ")") refl (close-paren Plain _)
    (no_word Plain end line_blank))))))))))))))))

pub modules_are_cut : ModulesAreCut
modules_are_cut m h = subst (λ (t : List ℕ). AreWords t (words_from 0 (module_words m)) None) (sym (text_of_modules m h)) (words_are_cut (module_words m) (codes "\n") (module_apart m h))

-- Form

more_read : (fs : List Op) (wanted : List Wanted) (ws : List PrintedWord) → list_all known_func fs ≡ true → AreRead (some parts.Ops ∷ wanted) ws → AreRead (some parts.Ops ∷ wanted) (more_funcs fs ws)
more_read [] wanted ws f h = h
more_read (o ∷ fs) wanted ws f h = op_read (own_names o) (codes "  ") o parts.Ops wanted _ (and-left _ _ f) ops_have (more_read fs wanted ws (and-right (known_func o) _ f) h)

body_read : (fs : List Op) (wanted : List Wanted) (ws : List PrintedWord) → list_all known_func fs ≡ true → AreRead wanted ws → AreRead (some parts.Ops ∷ some parts.Blocks ∷ wanted) (body_words fs ws)
body_read [] wanted ws f h =
    left parts.Ops refl (opened _ parts.Blocks places.BlockLabel (some parts.BlockArgs ∷ at places.BlockColon ∷ some parts.Ops ∷ some parts.Blocks ∷ []) kinds.Label _ (has_at 0 _ _ refl) refl
    (left parts.BlockArgs refl (took _ places.BlockColon kinds.Colon _ refl (left parts.Ops refl (left parts.Blocks refl h)))))
body_read (o ∷ fs) wanted ws f h = more_read (o ∷ fs) (some parts.Blocks ∷ wanted) ws f (left parts.Ops refl (left parts.Blocks refl h))

module_read : (m : PlainModule) → is_known m ≡ true → AreRead start (module_words m)
module_read m h =
    let others = and-right (is_readable_dict (dict_in m.props)) _ h in
    opened _ parts.File places.OpName (some parts.OpBody ∷ some parts.File ∷ []) kinds.Text _ (has_at 0 _ _ refl) refl
    (opened _ parts.OpBody places.OperandsOpen
    (some parts.Uses ∷ at places.OperandsClose ∷ some parts.Successors ∷ some parts.Props ∷ some parts.Regions ∷ some parts.Dict
    ∷ at places.SignatureColon ∷ at places.SignatureOpen ∷ some parts.Types ∷ at places.SignatureClose ∷ at places.SignatureArrow ∷ some parts.Results ∷ some parts.Loc ∷ [])
    kinds.OpenParen _ (has_at 0 _ _ refl) refl
    (left parts.Uses refl (took _ places.OperandsClose kinds.CloseParen _ refl (left parts.Successors refl (props_read m.props _ _ (and-left _ _ h)
    (opened _ parts.Regions places.RegionsOpen (some parts.Region ∷ some parts.MoreRegions ∷ at places.RegionsClose ∷ []) kinds.OpenParen _ (has_at 0 _ _ refl) refl
    (opened _ parts.Region places.RegionOpen (some parts.Ops ∷ some parts.Blocks ∷ at places.RegionClose ∷ []) kinds.OpenBrace _ (has_at 0 _ _ refl) refl
    (body_read m.funcs _ _ (and-right (is_readable_dict (dict_in m.attrs)) _ others) (took _ places.RegionClose kinds.CloseBrace _ refl
    (left parts.MoreRegions refl (took _ places.RegionsClose kinds.CloseParen _ refl (attrs_read m.attrs _ _ (and-left _ _ others)
    (took _ places.SignatureColon kinds.Colon _ refl (took _ places.SignatureOpen kinds.OpenParen _ refl (left parts.Types refl (took _ places.SignatureClose kinds.CloseParen _ refl (took _ places.SignatureArrow kinds.Arrow _ refl
    (opened _ parts.Results places.ResultsOpen (some parts.Types ∷ at places.ResultsClose ∷ some parts.AfterResults ∷ []) kinds.OpenParen _ (has_at 9 _ _ refl) refl
    (left parts.Types refl (took _ places.ResultsClose kinds.CloseParen _ refl (left parts.AfterResults refl (left parts.Loc refl (left parts.File refl nothing)))))))))))))))))))))))

-- the kinds of the words
kinds_are : (at : ℕ) (ws : List PrintedWord) → map kind_of (words_from at ws) ≡ map (λ (w : PrintedWord). w.kind) ws
kinds_are at [] = refl
kinds_are at (w ∷ ws) = ap (λ ks. w.kind ∷ ks) (kinds_are (at + length w.gap + length w.bytes) ws)

pub modules_are_read : ModulesAreRead
modules_are_read m h =
    let reads = (module_read m h).is in
    let found = gives_only generic_ll (places_of m) (map (λ (w : PrintedWord). w.kind) (module_words m)) reads in
    (reads, record { taken = rw (kinds_are 0 (module_words m)) found.0; is = rw (kinds_are 0 (module_words m)) found.1 })
