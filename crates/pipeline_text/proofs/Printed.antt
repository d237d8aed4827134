-- The printed text of what a text reads as reads as the same.
use Rattle.std.proofs.Common.{◌≡◌, ℕ, true, false, List, [], ◌∷◌, ◌++◌, map, Option, Some, None, inl, inr, refl, sym, ap, subst, ◌∙◌, append_assoc}
use Rattle.std.specs.Prelude.{unwrap_or, codes}
use Rattle.std.proofs.lemmas.List.{append-nil}
use Rattle.grammar_model.specs.Syntax.{Syntax, ◌then◌, mapped, ◌▸◌, ◌◂◌, maybe, WrittenMaybe, listed}
use Rattle.pipeline_text.specs.declared.pass.PassName.{PassName}
use Rattle.pipeline_text.specs.declared.pass.PassName.TheVariants.{ConvertScfToCf, ArithExpand, ConvertArithToLlvm, ConvertCfToLlvm, ConvertFuncToLlvm, FinalizeMemrefToLlvm, ReconcileUnrealizedCasts, FullConvertToLlvm}
use Rattle.pipeline_text.specs.declared.pass.PassUse.{PassUse}
use Rattle.pipeline_text.specs.declared.pass.Anchor.{Anchor}
use Rattle.pipeline_text.specs.declared.pass.Anchor.TheVariants.{FuncFunc, LlvmFunc}
use Rattle.pipeline_text.specs.declared.pass.Stage.{Stage}
use Rattle.pipeline_text.specs.declared.pass.Stage.TheVariants.{Each}
use Rattle.pipeline_text.specs.declared.token.Token.{Token}
use Rattle.pipeline_text.specs.declared.token.Level.{Level}
use Rattle.pipeline_text.specs.declared.token.Level.TheVariants.{Nested}
use Rattle.pipeline_text.specs.declared.token.Level.TheVariants as level
use Rattle.pipeline_text.specs.declared.token.Kind.{Kind}
use Rattle.pipeline_text.specs.declared.token.Kind.TheVariants as kinds
use Rattle.pipeline_text.specs.declared.token.Wanted.{Wanted}
use Rattle.pipeline_text.specs.declared.token.Wanted.TheVariants as wanted
use Rattle.pipeline_text.specs.Kinds.{kind_of, fits}
use Rattle.pipeline_text.specs.Passes.{pass_text}
use Rattle.pipeline_text.specs.Words.{word_kind, tokens_of, cut}
use Rattle.pipeline_text.specs.Grammar.{whole_of, pass_of, pass_or_first, anchor_of, value_bits, use_of, each_of, pass_word, anchor_word, value_word, option_part, wide_part, plain_part, pass_part, nested_part, whole_part, item_part, pipeline}
use Rattle.pipeline_text.specs.Reading.{ReadsAs}
use Rattle.pipeline_text.specs.Printing.{joined, use_text, anchor_text, stage_text, printed}
use Rattle.pipeline_text.specs.Promises.{PrintedReadsAgain}
use Rattle.pipeline_text.proofs.Spelled.{Spells, spells_mapped, spells_then, spells_left, spells_right, spells_none, spells_before, spells_behind, spells_word, spells_before_word, spells_listed}

-- Words

pass_again : (w : Wanted) (p : PassName) (text : List ℕ) → word_kind text ≡ kinds.Pass p → (t : Token) → t.kind ≡ word_kind text → pass_of t ≡ p
pass_again w p text e t k = rw (k, e) refl

spells_pass : (w : Wanted) (p : PassName) → fits w (kinds.Pass p) ≡ true → fits w kinds.OtherWord ≡ false → Spells (pass_word w) p (pass_text p)
unfolding pass_word word_kind
spells_pass w ConvertScfToCf fit other = spells_word (fits w) pass_of (pass_text ConvertScfToCf) ConvertScfToCf (refl, fit) other (pass_again w ConvertScfToCf (pass_text ConvertScfToCf) refl)
spells_pass w ArithExpand fit other = spells_word (fits w) pass_of (pass_text ArithExpand) ArithExpand (refl, fit) other (pass_again w ArithExpand (pass_text ArithExpand) refl)
spells_pass w ConvertArithToLlvm fit other = spells_word (fits w) pass_of (pass_text ConvertArithToLlvm) ConvertArithToLlvm (refl, fit) other (pass_again w ConvertArithToLlvm (pass_text ConvertArithToLlvm) refl)
spells_pass w ConvertCfToLlvm fit other = spells_word (fits w) pass_of (pass_text ConvertCfToLlvm) ConvertCfToLlvm (refl, fit) other (pass_again w ConvertCfToLlvm (pass_text ConvertCfToLlvm) refl)
spells_pass w ConvertFuncToLlvm fit other = spells_word (fits w) pass_of (pass_text ConvertFuncToLlvm) ConvertFuncToLlvm (refl, fit) other (pass_again w ConvertFuncToLlvm (pass_text ConvertFuncToLlvm) refl)
spells_pass w FinalizeMemrefToLlvm fit other = spells_word (fits w) pass_of (pass_text FinalizeMemrefToLlvm) FinalizeMemrefToLlvm (refl, fit) other (pass_again w FinalizeMemrefToLlvm (pass_text FinalizeMemrefToLlvm) refl)
spells_pass w ReconcileUnrealizedCasts fit other = spells_word (fits w) pass_of (pass_text ReconcileUnrealizedCasts) ReconcileUnrealizedCasts (refl, fit) other (pass_again w ReconcileUnrealizedCasts (pass_text ReconcileUnrealizedCasts) refl)
spells_pass w FullConvertToLlvm fit other = spells_word (fits w) pass_of (pass_text FullConvertToLlvm) FullConvertToLlvm (refl, fit) other (pass_again w FullConvertToLlvm (pass_text FullConvertToLlvm) refl)

anchor_again : (a : Anchor) (text : List ℕ) → word_kind text ≡ kinds.OnEach a → (t : Token) → t.kind ≡ word_kind text → anchor_of t ≡ a
anchor_again a text e t k = rw (k, e) refl

spells_anchor : (a : Anchor) → Spells anchor_word a (anchor_text a)
unfolding anchor_word word_kind
spells_anchor FuncFunc = spells_word (fits wanted.OnEach) anchor_of (anchor_text FuncFunc) FuncFunc (refl, refl) refl (anchor_again FuncFunc (anchor_text FuncFunc) refl)
spells_anchor LlvmFunc = spells_word (fits wanted.OnEach) anchor_of (anchor_text LlvmFunc) LlvmFunc (refl, refl) refl (anchor_again LlvmFunc (anchor_text LlvmFunc) refl)

-- Passes

-- each option that is written says 64 bits
usual_bits : (k : Kind) → value_bits k ≡ 64
usual_bits kinds.Zero = refl
usual_bits k = refl

option_always : (name : Wanted) (bits : ℕ) (ts : List Token) → (option_part name).Written bits ts → bits ≡ 64
unfolding option_part value_word
option_always name bits ts (a, ea, (_, _, _, (b, eb, (_, _, _, (c, ec, (_, _, _, (d, ed, (_, _, (t, et, _), _, _)), _)), _)), _)) =
    sym (et ∙ ed ∙ ec ∙ eb ∙ ea) ∙ usual_bits t.kind

bits_always : (name : Wanted) (o : Option ℕ) (ts : List Token) → WrittenMaybe (option_part name) o ts → unwrap_or o 64 ≡ 64
bits_always name None ts w = refl
bits_always name (Some bits) ts w = option_always name bits ts w

wide_word : (l : Level) (k : Kind) → fits (wanted.WidePass l) k ≡ true → fits (wanted.WidePass l) (kinds.Pass (pass_or_first k)) ≡ true
wide_word l (kinds.Pass p) h = h
wide_word l k h = absurd cc

plain_word : (l : Level) (k : Kind) → fits (wanted.PlainPass l) k ≡ true → fits (wanted.PlainPass l) (kinds.Pass (pass_or_first k)) ≡ true
plain_word l (kinds.Pass p) h = h
plain_word l k h = absurd cc

-- a pass without an option
spells_use : (w name : Wanted) (p : PassName) → fits w (kinds.Pass p) ≡ true → fits w kinds.OtherWord ≡ false
    → Spells (mapped use_of (pass_word w then maybe (option_part name))) (record { pass = p; bits = 64 }) (pass_text p ++ [])
spells_use w name p fit other = spells_mapped use_of (pass_word w then maybe (option_part name)) (p, None) (pass_text p ++ [])
    (spells_then (pass_word w) (maybe (option_part name)) p None (pass_text p) [] (spells_pass w p fit other) (spells_none (option_part name)) (λ rest ends. ends))

same_use : (u : PassUse) (x : PassName × Option ℕ) → use_of x ≡ u → unwrap_or x.1 64 ≡ 64 → record { pass = x.0; bits = 64 } ≡ u
same_use u x e bits = ap (λ (n : ℕ). let v : PassUse = record { pass = x.0; bits = n } in v) (sym bits) ∙ e

use_again : (s : Syntax kind_of PassUse) (u : PassUse) (x : PassName × Option ℕ) → use_of x ≡ u → unwrap_or x.1 64 ≡ 64
    → Spells s (record { pass = x.0; bits = 64 }) (pass_text x.0 ++ []) → Spells s u (use_text u)
use_again s u x e bits h = subst (λ (v : PassUse). Spells s v (use_text v)) (same_use u x e bits) h

wide_again : (l : Level) (u : PassUse) (ts : List Token) → (wide_part l).Written u ts → Spells (wide_part l) u (use_text u)
unfolding wide_part pass_word
wide_again l u ts (x, e, (f, b, (t, is, wt), wo, eq)) = use_again (wide_part l) u x e (bits_always wanted.Width x.1 b wo)
    (spells_use (wanted.WidePass l) wanted.Width x.0 (subst (λ (p : PassName). fits (wanted.WidePass l) (kinds.Pass p) ≡ true) is (wide_word l t.kind wt.0)) refl)

plain_again : (l : Level) (u : PassUse) (ts : List Token) → (plain_part l).Written u ts → Spells (plain_part l) u (use_text u)
unfolding plain_part pass_word
plain_again l u ts (x, e, (f, b, (t, is, wt), wo, eq)) = use_again (plain_part l) u x e (bits_always wanted.NoOption x.1 b wo)
    (spells_use (wanted.PlainPass l) wanted.NoOption x.0 (subst (λ (p : PassName). fits (wanted.PlainPass l) (kinds.Pass p) ≡ true) is (plain_word l t.kind wt.0)) refl)

pass_part_again : (l : Level) (u : PassUse) (ts : List Token) → (pass_part l).Written u ts → Spells (pass_part l) u (use_text u)
unfolding pass_part
pass_part_again l u ts (inl w) = spells_left (wide_part l) (plain_part l) u (use_text u) (wide_again l u ts w)
pass_part_again l u ts (inr w) = spells_right (wide_part l) (plain_part l) u (use_text u) (plain_again l u ts w)

-- Stages

in_parentheses : (a j : List ℕ) → a ++ (40 ∷ (j ++ 41 ∷ [])) ≡ ((a ++ 40 ∷ []) ++ j) ++ 41 ∷ []
in_parentheses a j = sym (append_assoc (a ++ 40 ∷ []) j (41 ∷ []) ∙ append_assoc a (40 ∷ []) (j ++ 41 ∷ []))

spells_each : (a : Anchor) (us : List PassUse) (ts : List Token) → (listed (fits wanted.Comma) (pass_part Nested)).Written us ts → Spells nested_part (Each a us) (stage_text (Each a us))
unfolding nested_part
spells_each a us ts w =
    let passes = listed (fits wanted.Comma) (pass_part Nested) in
    let text = joined (map use_text us) in
    subst (λ (t : List ℕ). Spells nested_part (Each a us) t) (in_parentheses (anchor_text a) text)
    (spells_mapped each_of (anchor_word then fits wanted.Open ▸ passes ◂ fits wanted.Close) (a, us) (anchor_text a ++ (40 ∷ (text ++ 41 ∷ [])))
    (spells_then anchor_word (fits wanted.Open ▸ passes ◂ fits wanted.Close) a us (anchor_text a) (40 ∷ (text ++ 41 ∷ [])) (spells_anchor a)
    (spells_before (fits wanted.Open) (passes ◂ fits wanted.Close) us 40 (text ++ 41 ∷ []) (refl, refl, refl)
    (spells_behind (fits wanted.Close) passes us 41 text (refl, refl, refl)
    (spells_listed (fits wanted.Comma) (pass_part Nested) use_text (refl, refl, refl) (pass_part_again Nested) us ts w)))
    (λ rest ends. refl)))

nested_again : (i : Stage) (ts : List Token) → nested_part.Written i ts → Spells nested_part i (stage_text i)
unfolding nested_part
nested_again i ts (x, e, (_, _, _, (y, ey, (_, _, _, (z, ez, (front, _, w, _, _)), _)), _)) =
    subst (λ (j : Stage). Spells nested_part j (stage_text j)) (ap (λ (us : List PassUse). Each x.0 us) (ez ∙ ey) ∙ e) (spells_each x.0 z.0 front w)

whole_again : (i : Stage) (ts : List Token) → whole_part.Written i ts → Spells whole_part i (stage_text i)
unfolding whole_part
whole_again i ts (u, e, w) = subst (λ (j : Stage). Spells (mapped whole_of (pass_part level.Module)) j (stage_text j)) e
    (spells_mapped whole_of (pass_part level.Module) u (use_text u) (pass_part_again level.Module u ts w))

item_again : (i : Stage) (ts : List Token) → item_part.Written i ts → Spells item_part i (stage_text i)
unfolding item_part
item_again i ts (inl w) = spells_left whole_part nested_part i (stage_text i) (whole_again i ts w)
item_again i ts (inr w) = spells_right whole_part nested_part i (stage_text i) (nested_again i ts w)

spells_items : (items : List Stage) (ts : List Token) → (listed (fits wanted.Comma) item_part).Written items ts → Spells pipeline items (printed items)
unfolding pipeline printed word_kind
spells_items items ts w =
    let stages = listed (fits wanted.Comma) item_part in
    let text = joined (map stage_text items) in
    subst (λ (t : List ℕ). Spells pipeline items t) (in_parentheses (codes "builtin.module") text)
    (spells_before_word (fits wanted.Module) (fits wanted.Open ▸ stages ◂ fits wanted.Close) items (codes "builtin.module") (40 ∷ (text ++ 41 ∷ [])) (refl, refl) refl (λ rest ends. refl)
    (spells_before (fits wanted.Open) (stages ◂ fits wanted.Close) items 40 (text ++ 41 ∷ []) (refl, refl, refl)
    (spells_behind (fits wanted.Close) stages items 41 text (refl, refl, refl)
    (spells_listed (fits wanted.Comma) item_part stage_text (refl, refl, refl) item_again items ts w))))

pipeline_again : (items : List Stage) (ts : List Token) → pipeline.Written items ts → Spells pipeline items (printed items)
unfolding pipeline
pipeline_again items ts (x, ex, (_, _, _, (y, ey, (_, _, _, (z, ez, (front, _, w, _, _)), _)), _)) =
    subst (λ (is : List Stage). Spells pipeline is (printed is)) (ez ∙ ey ∙ ex) (spells_items z.0 front w)

spelled_whole : (items : List Stage) (text : List ℕ) → Spells pipeline items text → ReadsAs text items
unfolding tokens_of
spelled_whole items text spelled =
    let (ts, place, w, e) = spelled 0 [] tt in
    let same : tokens_of text ≡ ts = ap (λ (t : List ℕ). cut [] 0 t) (sym (append-nil text)) ∙ e ∙ append-nil ts in
    subst (λ (us : List Token). pipeline.Written items us) (sym same) w

pub printed_again : PrintedReadsAgain
printed_again = λ text items w. spelled_whole items (printed items) (pipeline_again items (tokens_of text) w)
