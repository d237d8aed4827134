-- At most one row of the table of replies fits.
use Rattle.std.proofs.Common.{◌≡◌, ℕ, ◌++◌, List, Option, Some, None, refl, sym, ap, ◌∙◌, subst, arith}
use Rattle.tree_model.specs.declared.op_tree.ModuleTree.{ModuleTree}
use Rattle.plain_tree.specs.Ops.{plain_module}
use Rattle.text_kinds.specs.declared.found.Kind.{Kind}
use Rattle.ir_verifier.specs.declared.broken.BrokenRule.{BrokenRule}
use Rattle.tree_reading.specs.Reading.{Reads, ReadsNot}
use Rattle.tree_reading.proofs.ReadingLaws.{one_module, refused_once, never_both}
use Rattle.lowered_module.specs.declared.lowered.LoweredModule.{LoweredModule}
use Rattle.lowered_module.specs.Lowered.{IsLowered, lowered_view}
use Rattle.one_lowering.proofs.Texts.{one_lowering}
use Rattle.one_report.proofs.Reports.{one_report}
use Rattle.run_report.specs.Reports.{source_text}
use Rattle.tool_words.specs.declared.request.Request.{Request}
use Rattle.tool_words.specs.declared.request.RunWords.{RunWords}
use Rattle.tool_words.specs.declared.request.WordsRead.{WordsRead}
use Rattle.tool_words.specs.declared.request.WordsRead.TheVariants.{Asked, Refused as WordsRefused}
use Rattle.tool_words.specs.Reading.{words_read}
use Rattle.tool_cli.specs.declared.status.Status.TheVariants.{Usage}
use Rattle.tool_cli.specs.Asking.{AsksFor}
use Rattle.tool_cli.specs.Behind.{lowered, lowered_for, run_of, text_on}
use Rattle.tool_cli.specs.Refusals.{broken, refused}
use Rattle.tool_cli.specs.Told.{Reply, refusal, ran}
use Rattle.tool_cli.specs.Verdicts.{BreaksRule, KeepsRules}
use Rattle.tool_cli.specs.Replies.{Out, no_words, long_input, no_module, unverified, a_module}
use Rattle.tool_cli.proofs.Verdicts.{never_keeps_and_breaks, one_broken}

-- The words

same_request : (words : List (List ℕ)) (c d : Request) → AsksFor words c → AsksFor words d → c ≡ d
same_request words c d p q = let both : ◌≡◌ {A = WordsRead} (Asked c) (Asked d) = sym p ∙ q in cc

pub never_refused : (words : List (List ℕ)) (text : List ℕ) (c : Request) → words_read words ≡ WordsRefused text → words_read words ≡ Asked c → ⊥
never_refused words text c p q = let both : ◌≡◌ {A = WordsRead} (WordsRefused text) (Asked c) = sym p ∙ q in absurd cc

one_text : (words : List (List ℕ)) (text other : List ℕ) → words_read words ≡ WordsRefused text → words_read words ≡ WordsRefused other → text ≡ other
one_text words text other p q = let both : ◌≡◌ {A = WordsRead} (WordsRefused text) (WordsRefused other) = sym p ∙ q in cc

-- The text

one_source : (words : List (List ℕ)) (bytes : List ℕ) (c d : Request) (s t : ModuleTree) → AsksFor words c → AsksFor words d
    → Reads bytes c.allowed s → Reads bytes d.allowed t → s ≡ t
one_source words bytes c d s t p q reads also =
    let P : Request → Type 0 = λ e. Reads bytes e.allowed t in
    one_module bytes c.allowed s t reads (subst P (same_request words d c q p) also)

refused_as : (words : List (List ℕ)) (bytes : List ℕ) (c d : Request) (place : ℕ) (kind : Kind) → AsksFor words c → AsksFor words d
    → ReadsNot bytes d.allowed place kind → ReadsNot bytes c.allowed place kind
refused_as words bytes c d place kind p q not =
    let P : Request → Type 0 = λ e. ReadsNot bytes e.allowed place kind in subst P (same_request words d c q p) not

-- a text that one row reads and another refuses
not_both : (words : List (List ℕ)) (bytes : List ℕ) (c d : Request) (s : ModuleTree) (place : ℕ) (kind : Kind) → AsksFor words c → AsksFor words d
    → Reads bytes c.allowed s → ReadsNot bytes d.allowed place kind → ⊥
not_both words bytes c d s place kind p q reads not = never_both bytes c.allowed s place kind reads (refused_as words bytes c d place kind p q not)

-- two refusals of a text
one_refusal : (words : List (List ℕ)) (bytes : List ℕ) (c d : Request) (place other : ℕ) (kind sort : Kind) → AsksFor words c → AsksFor words d
    → ReadsNot bytes c.allowed place kind → ReadsNot bytes d.allowed other sort → refused place kind ≡ refused other sort
one_refusal words bytes c d place other kind sort p q not also =
    let same = refused_once bytes c.allowed place other kind sort not (refused_as words bytes c d other sort p q also) in
    ap (λ x. refused x kind) same.0 ∙ ap (refused other) same.1

-- The rules

-- a module that one row refuses for a rule, and another takes
never_kept : (words : List (List ℕ)) (bytes : List ℕ) (c d : Request) (s t : ModuleTree) (rule : BrokenRule) → AsksFor words c → AsksFor words d
    → Reads bytes c.allowed s → Reads bytes d.allowed t → BreaksRule (plain_module s) rule → KeepsRules (plain_module t) → ⊥
never_kept words bytes c d s t rule p q reads also breaks keeps =
    let P : ModuleTree → Type 0 = λ m. KeepsRules (plain_module m) in
    never_keeps_and_breaks bytes c.allowed s rule reads breaks (subst P (sym (one_source words bytes c d s t p q reads also)) keeps)

-- two rules that a module breaks first
one_rule : (words : List (List ℕ)) (bytes : List ℕ) (c d : Request) (s t : ModuleTree) (rule other : BrokenRule) → AsksFor words c → AsksFor words d
    → Reads bytes c.allowed s → Reads bytes d.allowed t → BreaksRule (plain_module s) rule → BreaksRule (plain_module t) other → broken s rule ≡ broken t other
one_rule words bytes c d s t rule other p q reads also breaks too =
    let P : ModuleTree → Type 0 = λ m. BreaksRule (plain_module m) other in
    let same : s ≡ t = one_source words bytes c d s t p q reads also in
    ap (broken s) (one_broken bytes c.allowed s rule other reads breaks (subst P (sym same) too)) ∙ ap (λ m. broken m other) same

-- The module behind the pipeline

same_text : (run : Option RunWords) (request : Request) (source : ModuleTree) (a b : LoweredModule) → IsLowered request.pipeline (plain_module source) (lowered_view a)
    → IsLowered request.pipeline (plain_module source) (lowered_view b) → text_on run request source a ≡ text_on run request source b
same_text None request source a b here there = (one_lowering request.pipeline (plain_module source) a b here there).text
same_text (Some run) request source a b here there =
    ap (λ t. source_text (run_of request run) source ++ t) ((one_report request.pipeline (plain_module source) a b here there).text (run_of request run))

same_lowered : (run : Option RunWords) (request : Request) (source : ModuleTree) (a b : LoweredModule) → IsLowered request.pipeline (plain_module source) (lowered_view a)
    → IsLowered request.pipeline (plain_module source) (lowered_view b) → lowered_for run request source a ≡ lowered_for run request source b
same_lowered run request source a b here there =
    let same = one_lowering request.pipeline (plain_module source) a b here there in
    ap (λ t. ran t a.lines a.failed) (same_text run request source a b here there) ∙ ap (λ l. ran (text_on run request source b) l a.failed) same.lines
    ∙ ap (λ f. ran (text_on run request source b) b.lines f) same.failed

one_behind : (words : List (List ℕ)) (bytes : List ℕ) (c d : Request) (s t : ModuleTree) (a b : LoweredModule) → AsksFor words c → AsksFor words d
    → Reads bytes c.allowed s → Reads bytes d.allowed t → IsLowered c.pipeline (plain_module s) (lowered_view a) → IsLowered d.pipeline (plain_module t) (lowered_view b)
    → lowered c s a ≡ lowered d t b
one_behind words bytes c d s t a b p q reads also here there =
    let P : Request → Type 0 = λ e. IsLowered e.pipeline (plain_module t) (lowered_view b) in
    let Q : ModuleTree → Type 0 = λ m. IsLowered c.pipeline (plain_module m) (lowered_view b) in
    let same : c ≡ d = same_request words c d p q in
    let as_c : IsLowered c.pipeline (plain_module t) (lowered_view b) = subst P (sym same) there in
    let source : s ≡ t = one_source words bytes c d s t p q reads also in
    let as_s : IsLowered c.pipeline (plain_module s) (lowered_view b) = subst Q (sym source) as_c in
    same_lowered c.run c s a b here as_s ∙ ap (λ m. lowered c m b) source ∙ ap (λ r. lowered r t b) same

-- Any two rows

pub one_reply : (words : List (List ℕ)) (bytes : List ℕ) (one other : Reply) → Out words bytes one → Out words bytes other → one ≡ other
one_reply words bytes _ _ (no_words t1 a1) (no_words t2 a2) = ap (refusal Usage) (one_text words t1 t2 a1 a2)
one_reply words bytes _ _ (no_words t1 a1) (long_input c2 a2 _) = absurd (never_refused words t1 c2 a1 a2)
one_reply words bytes _ _ (no_words t1 a1) (no_module c2 _ _ a2 _ _) = absurd (never_refused words t1 c2 a1 a2)
one_reply words bytes _ _ (no_words t1 a1) (unverified c2 _ _ a2 _ _ _) = absurd (never_refused words t1 c2 a1 a2)
one_reply words bytes _ _ (no_words t1 a1) (a_module c2 _ _ a2 _ _ _ _) = absurd (never_refused words t1 c2 a1 a2)
one_reply words bytes _ _ (long_input c1 a1 _) (no_words t2 a2) = absurd (never_refused words t2 c1 a2 a1)
one_reply words bytes _ _ (long_input _ _ _) (long_input _ _ _) = refl
one_reply words bytes _ _ (long_input _ _ l1) (no_module _ _ _ _ l2 _) = absurd (omega arith)
one_reply words bytes _ _ (long_input _ _ l1) (unverified _ _ _ _ l2 _ _) = absurd (omega arith)
one_reply words bytes _ _ (long_input _ _ l1) (a_module _ _ _ _ l2 _ _ _) = absurd (omega arith)
one_reply words bytes _ _ (no_module c1 _ _ a1 _ _) (no_words t2 a2) = absurd (never_refused words t2 c1 a2 a1)
one_reply words bytes _ _ (no_module _ _ _ _ l1 _) (long_input _ _ l2) = absurd (omega arith)
one_reply words bytes _ _ (no_module c1 f1 k1 a1 _ n1) (no_module c2 f2 k2 a2 _ n2) = one_refusal words bytes c1 c2 f1 f2 k1 k2 a1 a2 n1 n2
one_reply words bytes _ _ (no_module c1 f1 k1 a1 _ n1) (unverified c2 s2 _ a2 _ n2 _) = absurd (not_both words bytes c2 c1 s2 f1 k1 a2 a1 n2 n1)
one_reply words bytes _ _ (no_module c1 f1 k1 a1 _ n1) (a_module c2 s2 _ a2 _ n2 _ _) = absurd (not_both words bytes c2 c1 s2 f1 k1 a2 a1 n2 n1)
one_reply words bytes _ _ (unverified c1 _ _ a1 _ _ _) (no_words t2 a2) = absurd (never_refused words t2 c1 a2 a1)
one_reply words bytes _ _ (unverified _ _ _ _ l1 _ _) (long_input _ _ l2) = absurd (omega arith)
one_reply words bytes _ _ (unverified c1 s1 _ a1 _ n1 _) (no_module c2 f2 k2 a2 _ n2) = absurd (not_both words bytes c1 c2 s1 f2 k2 a1 a2 n1 n2)
one_reply words bytes _ _ (unverified c1 s1 e1 a1 _ n1 v1) (unverified c2 s2 e2 a2 _ n2 v2) = one_rule words bytes c1 c2 s1 s2 e1 e2 a1 a2 n1 n2 v1 v2
one_reply words bytes _ _ (unverified c1 s1 e1 a1 _ n1 v1) (a_module c2 s2 _ a2 _ n2 v2 _) = absurd (never_kept words bytes c1 c2 s1 s2 e1 a1 a2 n1 n2 v1 v2)
one_reply words bytes _ _ (a_module c1 _ _ a1 _ _ _ _) (no_words t2 a2) = absurd (never_refused words t2 c1 a2 a1)
one_reply words bytes _ _ (a_module _ _ _ _ l1 _ _ _) (long_input _ _ l2) = absurd (omega arith)
one_reply words bytes _ _ (a_module c1 s1 _ a1 _ n1 _ _) (no_module c2 f2 k2 a2 _ n2) = absurd (not_both words bytes c1 c2 s1 f2 k2 a1 a2 n1 n2)
one_reply words bytes _ _ (a_module c1 s1 _ a1 _ n1 v1 _) (unverified c2 s2 e2 a2 _ n2 v2) = absurd (never_kept words bytes c2 c1 s2 s1 e2 a2 a1 n2 n1 v2 v1)
one_reply words bytes _ _ (a_module c1 s1 m1 a1 _ n1 _ w1) (a_module c2 s2 m2 a2 _ n2 _ w2) = one_behind words bytes c1 c2 s1 s2 m1 m2 a1 a2 n1 n2 w1 w2
