-- The words of an operation stand apart.
use Rattle.std.proofs.Common.{◌≡◌, inl, inr, ℕ, ◌+◌, ◌<◌, ◌^◌, ◌==◌, ◌||◌, Bool, true, false, List, [], ◌∷◌, ◌++◌, length, Option, Some, None, refl, arith}
use Rattle.std.specs.Prelude.{codes, decimal, if◌then◌else◌}
use Rattle.std.specs.List.{list_all}
use Rattle.std.proofs.lemmas.Bool.{false≢true}
use Rattle.std.proofs.lemmas.Bool.Decides.{nat_tests}
use Rattle.mlir_lex.specs.Bytes.{is_blank, is_digit, is_letter, starts_suffix, is_suffix_byte}
use Rattle.mlir_lex.specs.Tokens.{is_run, IsName, IsSuffix}
use Rattle.mlir_lex.specs.Scan.{begins}
use Rattle.mlir_lex.proofs.Lengths.{and-both, and-left, and-right}
use Rattle.plain_tree.specs.Types.{PlainType}
use Rattle.plain_tree.specs.Attrs.{Entries, dict_in}
use Rattle.plain_tree.specs.Ops.{Op, op, Ops, end_of_ops, more_ops, Regions, end_of_regions, region, Blocks, end_of_blocks, block, Values}
use Rattle.tree_text.specs.NameText.{string_text}
use Rattle.text_model.specs.declared.value_name.ValueName.{ValueName}
use Rattle.text_model.specs.declared.value_name.ValueName.TheVariants.{Argument, Single, Part}
use Rattle.text_model.specs.PrintedNames.{Names}
use Rattle.text_model.specs.PrintedOps.{found_name, found_number, found_label}
use Rattle.text_grammar.specs.declared.kinds.Kind.TheVariants as kinds
use Rattle.text_grammar.specs.declared.places.Place.TheVariants as places
use Rattle.text_grammar.specs.declared.cuts.Mode.TheVariants.{Plain}
use Rattle.text_grammar.specs.TokenKinds.{hash_kind}
use Rattle.printed_words.specs.Words.{PrintedWord, sign, text_of, are_blanks, is_free, Stands, AreApart}
use Rattle.printed_words.proofs.WordLemmas.{apart, free-blank, free-line, free-comma, free-colon, free-hash, free-open, free-close, free-squared, free-braced, open-paren, close-paren, open-square, close-square, open-brace, close-brace, less, greater, comma, colon, equals, arrow, hash-name, value-name, block-name, text, number, decimal-digits, one_blank}
use Rattle.printed_types.proofs.TextLemmas.{type_text}
use Rattle.printed_types.proofs.ApartLemmas.{type_apart, types_apart, results_apart, below}
use Rattle.printed_types.specs.TypeWords.{type_words}
use Rattle.printed_attrs.specs.Readable.{are_bytes, is_readable_dict}
use Rattle.printed_attrs.proofs.StringLemmas.{string_is}
use Rattle.printed_attrs.proofs.ApartLemmas.{dict_apart}
use Rattle.printed_ops.specs.OpWords.{lead_words, use_words, more_uses, uses_words, operands_words, more_successors, successors_words, props_words, attrs_words, operand_types, value_types, signature_words, arg_words, more_args, args_words, label_words, shows, close_word, op_words, ops_words, regions_words, more_regions, blocks_words, blocks_from}
use Rattle.printed_ops.specs.Named.{is_small, is_named, is_alone, is_placed, is_typed, are_named, are_formed, is_known_arg, is_known_op, are_known_ops, are_known_regions, are_known_blocks}
use Rattle.printed_ops.proofs.TextLemmas.{known, split, ops_lines, from_lines}
use Rattle.printed_ops.proofs.ReadLemmas.{operands_formed, values_formed}

-- Names of values and labels

small : (k : ℕ) → is_small k ≡ true → k < 10 ^ 64
small k h = let few : k < 2 ^ 64 = below k (2 ^ 64) h in omega arith

digits_of : (k : ℕ) → is_small k ≡ true → is_run is_digit (decimal k) ≡ true
digits_of k h = decimal-digits k (small k h)

digit-suffix : (b : ℕ) → is_digit b ≡ true → is_suffix_byte b ≡ true
unfolding is_suffix_byte
digit-suffix b h = rw h (or-true (starts_suffix b))
  where
    or-true : (t : Bool) → (t || true) ≡ true
    or-true true = refl
    or-true false = refl

digits-suffix : (bs : List ℕ) → list_all is_digit bs ≡ true → list_all is_suffix_byte bs ≡ true
digits-suffix [] h = refl
digits-suffix (b ∷ bs) h = and-both _ _ (digit-suffix b (and-left _ _ h)) (digits-suffix bs (and-right (is_digit b) _ h))

run-all : (bs : List ℕ) → is_run is_digit bs ≡ true → list_all is_digit bs ≡ true
unfolding is_run
run-all [] h = absurd (false≢true h)
run-all (b ∷ bs) h = h

number_name : (sign : ℕ) (k : ℕ) → is_small k ≡ true → IsName sign (sign ∷ decimal k)
unfolding IsName IsSuffix
number_name sign k h = (decimal k, refl, inl (digits_of k h))

argument_name : (k : ℕ) → is_small k ≡ true → IsName 37 (codes "%arg" ++ decimal k)
unfolding IsName IsSuffix starts_suffix is_suffix_byte is_letter
argument_name k h = (codes "arg" ++ decimal k, refl, inr (digits-suffix (decimal k) (run-all (decimal k) (digits_of k h))))

pub label_name : (k : ℕ) → is_small k ≡ true → IsName 94 (codes "^bb" ++ decimal k)
unfolding IsName IsSuffix starts_suffix is_suffix_byte is_letter
label_name k h = (codes "bb" ++ decimal k, refl, inr (digits-suffix (decimal k) (run-all (decimal k) (digits_of k h))))

hash_number : (k : ℕ) → is_small k ≡ true → hash_kind (codes "#" ++ decimal k) ≡ kinds.HashNumber
unfolding hash_kind
hash_number k h = rw (run-all (decimal k) (digits_of k h)) refl

number_stands : (name : Option ValueName) (rest : List ℕ) → is_named name ≡ true → is_free rest ≡ true → Stands Plain kinds.Value (found_number name) rest
number_stands (Some (Argument k)) rest h free = value-name (codes "%arg" ++ decimal k) rest (argument_name k h) free
number_stands (Some (Single k)) rest h free = value-name (codes "%" ++ decimal k) rest (number_name 37 k h) free
number_stands (Some (Part k j)) rest h free = value-name (codes "%" ++ decimal k) rest (number_name 37 k (and-left _ _ h)) free
number_stands None rest h free = absurd (false≢true h)

alone_stands : (name : Option ValueName) (rest : List ℕ) → is_alone name ≡ true → is_free rest ≡ true → Stands Plain kinds.Value (found_name name) rest
alone_stands (Some (Argument k)) rest h free = value-name (codes "%arg" ++ decimal k) rest (argument_name k h) free
alone_stands (Some (Single k)) rest h free = value-name (codes "%" ++ decimal k) rest (number_name 37 k h) free
alone_stands (Some (Part k j)) rest h free = absurd (false≢true h)
alone_stands None rest h free = absurd (false≢true h)

label_stands : (position : Option ℕ) (rest : List ℕ) → is_placed position ≡ true → is_free rest ≡ true → Stands Plain kinds.Label (found_label position) rest
label_stands (Some k) rest h free = block-name (codes "^bb" ++ decimal k) rest (label_name k h) free
label_stands None rest h free = absurd (false≢true h)

-- no `:` behind these
digit-colon : (b : ℕ) → is_digit b ≡ true → (b == 58) ≡ false
unfolding is_digit
digit-colon b h = grind (arith, nat_tests)

digits-colon : (ds rest : List ℕ) → is_run is_digit ds ≡ true → begins 58 (ds ++ rest) ≡ false
unfolding begins is_run
digits-colon [] rest h = absurd (false≢true h)
digits-colon (b ∷ ds) rest h = digit-colon b (and-left _ _ h)

blank-colon : (rest : List ℕ) → begins 58 (32 ∷ rest) ≡ false
unfolding begins
blank-colon rest = refl

line-colon : (rest : List ℕ) → begins 58 (10 ∷ rest) ≡ false
unfolding begins
line-colon rest = refl

type-colon : (t : PlainType) (rest : List PrintedWord) (end : List ℕ) → begins 58 (text_of (type_words false places.IntegerWord (codes " ") t rest) end) ≡ false
type-colon t rest end = rw (type_text false places.IntegerWord (codes " ") t rest end) (blank-colon _)

line_blanks : (indent : List ℕ) → are_blanks indent ≡ true → are_blanks (10 ∷ indent) ≡ true
unfolding is_blank
line_blanks indent h = h

deeper : (indent : List ℕ) → are_blanks indent ≡ true → are_blanks (indent ++ codes "  ") ≡ true
unfolding is_blank
deeper [] h = refl
deeper (b ∷ indent) h = and-both _ _ (and-left _ _ h) (deeper indent (and-right (is_blank b) _ h))

-- words that begin another line
pub record OnLine (ws : List PrintedWord) (end : List ℕ) : Type 0 where
  pub next : List ℕ
  pub is : text_of ws end ≡ 10 ∷ next

line_free : {ws : List PrintedWord} {end : List ℕ} → OnLine ws end → is_free (text_of ws end) ≡ true
line_free h = rw h.is (free-line h.next)

pub no_colon : {ws : List PrintedWord} {end : List ℕ} → OnLine ws end → begins 58 (text_of ws end) ≡ false
no_colon h = rw h.is (line-colon h.next)

-- Parts of an operation

lead_apart : (n : Names) (gap : List ℕ) (vs : Values) (name : List ℕ) (rest : List PrintedWord) (end : List ℕ) → are_blanks gap ≡ true → are_named n vs ≡ true → are_bytes name ≡ true → AreApart Plain rest end
    → AreApart Plain (lead_words n gap vs (string_text name) rest) end
lead_apart n gap [] name rest end blanks f b h = apart gap places.OpName kinds.Text (string_text name) blanks (text (string_text name) _ (string_is name b)) h
lead_apart n gap (v ∷ []) name rest end blanks f b h =
    apart gap places.ResultName kinds.Value (found_name (n.name v.0)) blanks (alone_stands (n.name v.0) _ f (free-blank _))
    (apart (codes " ") places.ResultsEquals kinds.Equals (codes "=") one_blank (equals Plain _)
    (apart (codes " ") places.OpName kinds.Text (string_text name) one_blank (text (string_text name) _ (string_is name b)) h))
lead_apart n gap (v ∷ w ∷ vs) name rest end blanks f b h =
    let few : is_run is_digit (decimal (length (v ∷ w ∷ vs))) ≡ true = digits_of (length (v ∷ w ∷ vs)) (and-right (is_named (n.name v.0)) _ f) in
    apart gap places.ResultName kinds.Value (found_number (n.name v.0)) blanks (number_stands (n.name v.0) _ (and-left _ _ f) (free-colon _))
    (apart [] places.ResultColon kinds.Colon (codes ":") refl (colon Plain _ (digits-colon (decimal (length (v ∷ w ∷ vs))) _ few))
    (apart [] places.ResultNumber kinds.Number (decimal (length (v ∷ w ∷ vs))) refl (number (decimal (length (v ∷ w ∷ vs))) _ few (free-blank _))
    (apart (codes " ") places.ResultsEquals kinds.Equals (codes "=") one_blank (equals Plain _)
    (apart (codes " ") places.OpName kinds.Text (string_text name) one_blank (text (string_text name) _ (string_is name b)) h))))

use_apart : (gap : List ℕ) (name : Option ValueName) (rest : List PrintedWord) (end : List ℕ) → are_blanks gap ≡ true → is_named name ≡ true → is_free (text_of rest end) ≡ true → AreApart Plain rest end → AreApart Plain (use_words gap name rest) end
use_apart gap (Some (Argument k)) rest end blanks f free h = apart gap places.UseName kinds.Value (codes "%arg" ++ decimal k) blanks (value-name (codes "%arg" ++ decimal k) _ (argument_name k f) free) h
use_apart gap (Some (Single k)) rest end blanks f free h = apart gap places.UseName kinds.Value (codes "%" ++ decimal k) blanks (value-name (codes "%" ++ decimal k) _ (number_name 37 k f) free) h
use_apart gap (Some (Part k j)) rest end blanks f free h =
    apart gap places.UseName kinds.Value (codes "%" ++ decimal k) blanks (value-name (codes "%" ++ decimal k) _ (number_name 37 k (and-left _ _ f)) (free-hash _))
    (apart [] places.UseNumber kinds.HashNumber (codes "#" ++ decimal j) refl (hash-name kinds.HashNumber (codes "#" ++ decimal j) _ (number_name 35 j (and-right (is_small k) _ f)) (hash_number j (and-right (is_small k) _ f)) free) h)
use_apart gap None rest end blanks f free h = absurd (false≢true f)

more_uses_free : (n : Names) (vs : List ℕ) (rest : List PrintedWord) (end : List ℕ) → is_free (text_of rest end) ≡ true → is_free (text_of (more_uses n vs rest) end) ≡ true
more_uses_free n [] rest end h = h
more_uses_free n (v ∷ vs) rest end h = free-comma _

more_uses_apart : (n : Names) (vs : List ℕ) (rest : List PrintedWord) (end : List ℕ) → list_all (λ v. is_named (n.name v)) vs ≡ true → is_free (text_of rest end) ≡ true → AreApart Plain rest end → AreApart Plain (more_uses n vs rest) end
more_uses_apart n [] rest end f free h = h
more_uses_apart n (v ∷ vs) rest end f free h =
    apart [] places.UseComma kinds.Comma (codes ",") refl (comma Plain _)
    (use_apart (codes " ") (n.name v) _ end one_blank (and-left _ _ f) (more_uses_free n vs rest end free) (more_uses_apart n vs rest end (and-right (is_named (n.name v)) _ f) free h))

uses_apart : (n : Names) (vs : List ℕ) (rest : List PrintedWord) (end : List ℕ) → list_all (λ v. is_named (n.name v)) vs ≡ true → is_free (text_of rest end) ≡ true → AreApart Plain rest end → AreApart Plain (uses_words n vs rest) end
uses_apart n [] rest end f free h = h
uses_apart n (v ∷ vs) rest end f free h = use_apart [] (n.name v) _ end refl (and-left _ _ f) (more_uses_free n vs rest end free) (more_uses_apart n vs rest end (and-right (is_named (n.name v)) _ f) free h)

operands_apart : (n : Names) (vs : List ℕ) (rest : List PrintedWord) (end : List ℕ) → list_all (λ v. is_named (n.name v)) vs ≡ true → AreApart Plain rest end → AreApart Plain (operands_words n vs rest) end
operands_apart n vs rest end f h =
    apart [] places.OperandsOpen kinds.OpenParen (codes "(") refl (open-paren Plain _) (uses_apart n vs _ end f (free-close _) (apart [] places.OperandsClose kinds.CloseParen (codes ")") refl (close-paren Plain _) h))

more_successors_free : (n : Names) (ls : List ℕ) (rest : List PrintedWord) (end : List ℕ) → is_free (text_of rest end) ≡ true → is_free (text_of (more_successors n ls rest) end) ≡ true
more_successors_free n [] rest end h = h
more_successors_free n (l ∷ ls) rest end h = free-comma _

more_successors_apart : (n : Names) (ls : List ℕ) (rest : List PrintedWord) (end : List ℕ) → list_all (λ l. is_placed (n.position l)) ls ≡ true → is_free (text_of rest end) ≡ true → AreApart Plain rest end → AreApart Plain (more_successors n ls rest) end
more_successors_apart n [] rest end f free h = h
more_successors_apart n (l ∷ ls) rest end f free h =
    apart [] places.SuccessorComma kinds.Comma (codes ",") refl (comma Plain _)
    (apart (codes " ") places.SuccessorName kinds.Label (found_label (n.position l)) one_blank (label_stands (n.position l) _ (and-left _ _ f) (more_successors_free n ls rest end free))
    (more_successors_apart n ls rest end (and-right (is_placed (n.position l)) _ f) free h))

successors_apart : (n : Names) (ls : List ℕ) (rest : List PrintedWord) (end : List ℕ) → list_all (λ l. is_placed (n.position l)) ls ≡ true → AreApart Plain rest end → AreApart Plain (successors_words n ls rest) end
successors_apart n [] rest end f h = h
successors_apart n (l ∷ ls) rest end f h =
    let close = apart [] places.SuccessorsClose kinds.CloseSquare (codes "]") refl (close-square Plain _) h in
    apart [] places.SuccessorsOpen kinds.OpenSquare (codes "[") refl (open-square Plain _)
    (apart [] places.SuccessorName kinds.Label (found_label (n.position l)) refl (label_stands (n.position l) _ (and-left _ _ f) (more_successors_free n ls _ end (free-squared _)))
    (more_successors_apart n ls _ end (and-right (is_placed (n.position l)) _ f) (free-squared _) close))

pub props_apart : (es : Entries) (rest : List PrintedWord) (end : List ℕ) → is_readable_dict (dict_in es) ≡ true → AreApart Plain rest end → AreApart Plain (props_words es rest) end
props_apart [] rest end f h = h
props_apart (e ∷ es) rest end f h =
    apart (codes " ") places.PropsLess kinds.Less (codes "<") one_blank (less Plain _)
    (apart [] places.PropsOpen kinds.OpenBrace (codes "{") refl (open-brace Plain _)
    (dict_apart (dict_in (e ∷ es)) _ end f (free-braced _)
    (λ mode. apart [] places.PropsClose kinds.CloseBrace (codes "}") refl (close-brace mode _) (apart [] places.PropsGreater kinds.Greater (codes ">") refl (greater Plain _) h))))

pub attrs_apart : (es : Entries) (rest : List PrintedWord) (end : List ℕ) → is_readable_dict (dict_in es) ≡ true → AreApart Plain rest end → AreApart Plain (attrs_words es rest) end
attrs_apart [] rest end f h = h
attrs_apart (e ∷ es) rest end f h =
    apart (codes " ") places.DictOpen kinds.OpenBrace (codes "{") one_blank (open-brace Plain _)
    (dict_apart (dict_in (e ∷ es)) _ end f (free-braced _) (λ mode. apart [] places.DictClose kinds.CloseBrace (codes "}") refl (close-brace mode _) h))

signature_apart : (n : Names) (operands : List ℕ) (results : Values) (rest : List PrintedWord) (end : List ℕ) → list_all (λ v. is_typed (n.type_of v)) operands ≡ true → are_formed results ≡ true → is_free (text_of rest end) ≡ true → AreApart Plain rest end
    → AreApart Plain (signature_words n operands results rest) end
signature_apart n operands results rest end f g free h =
    apart (codes " ") places.SignatureColon kinds.Colon (codes ":") one_blank (colon Plain _ (blank-colon _))
    (apart (codes " ") places.SignatureOpen kinds.OpenParen (codes "(") one_blank (open-paren Plain _)
    (types_apart false (operand_types n operands) _ end (operands_formed n operands f) (free-close _)
    (apart [] places.SignatureClose kinds.CloseParen (codes ")") refl (close-paren Plain _)
    (apart (codes " ") places.SignatureArrow kinds.Arrow (codes "->") one_blank (arrow Plain _) (results_apart false (value_types results) rest end (values_formed results g) free h)))))

-- arguments
arg_apart : (n : Names) (gap : List ℕ) (v : ℕ × PlainType) (rest : List PrintedWord) (end : List ℕ) → are_blanks gap ≡ true → is_known_arg n v ≡ true → is_free (text_of rest end) ≡ true → AreApart Plain rest end → AreApart Plain (arg_words n gap v rest) end
arg_apart n gap v rest end blanks f free h =
    apart gap places.ArgName kinds.Value (found_name (n.name v.0)) blanks (alone_stands (n.name v.0) _ (and-left _ _ f) (free-colon _))
    (apart [] places.ArgColon kinds.Colon (codes ":") refl (colon Plain _ (type-colon v.1 rest end)) (type_apart false (codes " ") v.1 rest end (and-right (is_alone (n.name v.0)) _ f) one_blank free h))

more_args_free : (n : Names) (vs : Values) (rest : List PrintedWord) (end : List ℕ) → is_free (text_of rest end) ≡ true → is_free (text_of (more_args n vs rest) end) ≡ true
more_args_free n [] rest end h = h
more_args_free n (v ∷ vs) rest end h = free-comma _

more_args_apart : (n : Names) (vs : Values) (rest : List PrintedWord) (end : List ℕ) → list_all (is_known_arg n) vs ≡ true → is_free (text_of rest end) ≡ true → AreApart Plain rest end → AreApart Plain (more_args n vs rest) end
more_args_apart n [] rest end f free h = h
more_args_apart n (v ∷ vs) rest end f free h =
    apart [] places.ArgComma kinds.Comma (codes ",") refl (comma Plain _)
    (arg_apart n (codes " ") v _ end one_blank (and-left _ _ f) (more_args_free n vs rest end free) (more_args_apart n vs rest end (and-right (is_known_arg n v) _ f) free h))

args_apart : (n : Names) (vs : Values) (rest : List PrintedWord) (end : List ℕ) → list_all (is_known_arg n) vs ≡ true → AreApart Plain rest end → AreApart Plain (args_words n vs rest) end
args_apart n [] rest end f h = h
args_apart n (v ∷ vs) rest end f h =
    let close = apart [] places.ArgsClose kinds.CloseParen (codes ")") refl (close-paren Plain _) h in
    apart [] places.ArgsOpen kinds.OpenParen (codes "(") refl (open-paren Plain _)
    (arg_apart n [] v _ end refl (and-left _ _ f) (more_args_free n vs _ end (free-close _)) (more_args_apart n vs _ end (and-right (is_known_arg n v) _ f) (free-close _) close))

args_free : (n : Names) (vs : Values) (rest : List PrintedWord) (end : List ℕ) → is_free (text_of rest end) ≡ true → is_free (text_of (args_words n vs rest) end) ≡ true
args_free n [] rest end h = h
args_free n (v ∷ vs) rest end h = free-open _

label_apart : (n : Names) (indent : List ℕ) (k : ℕ) (vs : Values) (rest : List PrintedWord) (end : List ℕ) → are_blanks indent ≡ true → is_small k ≡ true → list_all (is_known_arg n) vs ≡ true → OnLine rest end → AreApart Plain rest end
    → AreApart Plain (label_words n indent k vs rest) end
label_apart n indent k vs rest end blanks few f line h =
    apart (10 ∷ indent) places.BlockLabel kinds.Label (codes "^bb" ++ decimal k) (line_blanks indent blanks) (block-name (codes "^bb" ++ decimal k) _ (label_name k few) (args_free n vs _ end (free-colon _)))
    (args_apart n vs _ end f (apart [] places.BlockColon kinds.Colon (codes ":") refl (colon Plain _ (no_colon line)) h))

if_apart : (b : Bool) (xs ys : List PrintedWord) (end : List ℕ) → AreApart Plain xs end → AreApart Plain ys end → AreApart Plain (if b then xs else ys) end
if_apart true xs ys end f g = f
if_apart false xs ys end f g = g

-- lines
ops_on : (n : Names) (indent : List ℕ) (os : Ops) (rest : List PrintedWord) (end : List ℕ) → are_known_ops n os ≡ true → OnLine rest end → OnLine (ops_words n indent os rest) end
ops_on n indent os rest end f line = record { next = _; is = ops_lines n indent os rest end line.next f line.is }

from_on : (n : Names) (indent : List ℕ) (k : ℕ) (bs : Blocks) (rest : List PrintedWord) (end : List ℕ) → are_known_blocks n k bs ≡ true → OnLine rest end → OnLine (blocks_from n indent k bs rest) end
from_on n indent k bs rest end f line = record { next = _; is = from_lines n indent k bs rest end line.next f line.is }

pub close_on : (indent : List ℕ) (rest : List PrintedWord) (end : List ℕ) → OnLine (close_word indent ∷ rest) end
close_on indent rest end = record { next = indent ++ (codes "}" ++ text_of rest end); is = refl }

mutual
  pub op_apart : (n : Names) (indent : List ℕ) (o : Op) (rest : List PrintedWord) (end : List ℕ) → is_known_op n o ≡ true → are_blanks indent ≡ true → OnLine rest end → AreApart Plain rest end → AreApart Plain (op_words n indent o rest) end
  op_apart n indent (op k results operands regions successors) rest end f blanks line h =
      let is = known n k results operands regions successors f in
      lead_apart n (10 ∷ indent) results k.name _ end (line_blanks indent blanks) is.results_named is.name
      (operands_apart n operands _ end is.operands_named (successors_apart n successors _ end is.placed (props_apart k.props _ end is.props (regions_apart n indent regions _ end is.regions_known blanks
      (attrs_apart k.attrs _ end is.attrs (signature_apart n operands results rest end is.operands_typed is.results_formed (line_free line) h))))))

  pub ops_apart : (n : Names) (indent : List ℕ) (os : Ops) (rest : List PrintedWord) (end : List ℕ) → are_known_ops n os ≡ true → are_blanks indent ≡ true → OnLine rest end → AreApart Plain rest end → AreApart Plain (ops_words n indent os rest) end
  ops_apart n indent end_of_ops rest end f blanks line h = h
  ops_apart n indent (more_ops o os) rest end f blanks line h =
      op_apart n indent o _ end (and-left _ _ f) blanks (ops_on n indent os rest end (and-right (is_known_op n o) _ f) line) (ops_apart n indent os rest end (and-right (is_known_op n o) _ f) blanks line h)

  pub regions_apart : (n : Names) (indent : List ℕ) (rs : Regions) (rest : List PrintedWord) (end : List ℕ) → are_known_regions n rs ≡ true → are_blanks indent ≡ true → AreApart Plain rest end → AreApart Plain (regions_words n indent rs rest) end
  regions_apart n indent end_of_regions rest end f blanks h = h
  regions_apart n indent (region blocks more) rest end f blanks h =
      let others = more_regions_apart n indent more _ end (and-right (are_known_blocks n 0 blocks) _ f) blanks (apart [] places.RegionsClose kinds.CloseParen (codes ")") refl (close-paren Plain _) h) in
      apart (codes " ") places.RegionsOpen kinds.OpenParen (codes "(") one_blank (open-paren Plain _)
      (apart [] places.RegionOpen kinds.OpenBrace (codes "{") refl (open-brace Plain _)
      (blocks_apart n indent blocks _ end (and-left _ _ f) blanks (close_on indent _ end) (apart (10 ∷ indent) places.RegionClose kinds.CloseBrace (codes "}") (line_blanks indent blanks) (close-brace Plain _) others)))

  pub more_regions_apart : (n : Names) (indent : List ℕ) (rs : Regions) (rest : List PrintedWord) (end : List ℕ) → are_known_regions n rs ≡ true → are_blanks indent ≡ true → AreApart Plain rest end → AreApart Plain (more_regions n indent rs rest) end
  more_regions_apart n indent end_of_regions rest end f blanks h = h
  more_regions_apart n indent (region blocks more) rest end f blanks h =
      let others = more_regions_apart n indent more rest end (and-right (are_known_blocks n 0 blocks) _ f) blanks h in
      apart [] places.RegionComma kinds.Comma (codes ",") refl (comma Plain _)
      (apart (codes " ") places.RegionOpen kinds.OpenBrace (codes "{") one_blank (open-brace Plain _)
      (blocks_apart n indent blocks _ end (and-left _ _ f) blanks (close_on indent _ end) (apart (10 ∷ indent) places.RegionClose kinds.CloseBrace (codes "}") (line_blanks indent blanks) (close-brace Plain _) others)))

  pub blocks_apart : (n : Names) (indent : List ℕ) (bs : Blocks) (rest : List PrintedWord) (end : List ℕ) → are_known_blocks n 0 bs ≡ true → are_blanks indent ≡ true → OnLine rest end → AreApart Plain rest end → AreApart Plain (blocks_words n indent bs rest) end
  blocks_apart n indent end_of_blocks rest end f blanks line h = h
  blocks_apart n indent (block label vs ops more) rest end f blanks line h =
      let k = split (list_all (is_known_arg n) vs) _ (and-right (is_small 0) _ f) in
      let l = split (are_known_ops n ops) _ k.1 in
      let others = from_on n indent 1 more rest end l.1 line in
      let inner = ops_apart n (indent ++ codes "  ") ops _ end l.0 (deeper indent blanks) others (from_apart n indent 1 more rest end l.1 blanks line h) in
      if_apart (shows n label vs ops) _ _ end (label_apart n indent 0 vs _ end blanks refl k.0 (ops_on n (indent ++ codes "  ") ops _ end l.0 others) inner) inner

  pub from_apart : (n : Names) (indent : List ℕ) (k : ℕ) (bs : Blocks) (rest : List PrintedWord) (end : List ℕ) → are_known_blocks n k bs ≡ true → are_blanks indent ≡ true → OnLine rest end → AreApart Plain rest end → AreApart Plain (blocks_from n indent k bs rest) end
  from_apart n indent k end_of_blocks rest end f blanks line h = h
  from_apart n indent k (block label vs ops more) rest end f blanks line h =
      let m = split (list_all (is_known_arg n) vs) _ (and-right (is_small k) _ f) in
      let l = split (are_known_ops n ops) _ m.1 in
      let others = from_on n indent (k + 1) more rest end l.1 line in
      let inner = ops_apart n (indent ++ codes "  ") ops _ end l.0 (deeper indent blanks) others (from_apart n indent (k + 1) more rest end l.1 blanks line h) in
      label_apart n indent k vs _ end blanks (and-left _ _ f) m.0 (ops_on n (indent ++ codes "  ") ops _ end l.0 others) inner
