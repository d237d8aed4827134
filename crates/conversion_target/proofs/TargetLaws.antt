-- The rules of dynamic names, and which names a target allows.
use Rattle.std.proofs.Common.{◌≡◌, ℕ, ◌+◌, ◌<◌, Bool, true, false, List, [], ◌∷◌, drop, get_or, length, Option, Some, None, refl, sym, ap, ◌∙◌, arith}
use Rattle.std.specs.Prelude.{◌||◌, is_some, if◌then◌else◌}
use Rattle.std.specs.Str.{bytes_eq}
use Rattle.std.proofs.lemmas.List.{drop_more}
use Rattle.conversion_model.specs.Targets.{Legality, may_be_at, may_be_legal}
use Rattle.conversion_model.specs.Targets as says
use Rattle.legal_graph.specs.Depths.{is_among}
use Rattle.legal_graph.specs.Graphs.{Allows}
use Rattle.conversion_target.specs.declared.rule.LegalRule.{LegalRule}
use Rattle.conversion_target.specs.declared.rule.LegalRule.TheVariants.{TypesOwn}
use Rattle.conversion_target.specs.declared.target.Target as code
use Rattle.conversion_target.specs.Targets.{dynamic_or, rule_in, target_of}

-- a name that isn't the one is passed over
pub rule_past : (names : List (List ℕ)) (rules : List LegalRule) (name other : List ℕ) (found : Option LegalRule) (k : ℕ) → length rules ≡ length names → k < length names
    → other ≡ get_or names k other → bytes_eq other name ≡ false → rule_in (drop k names) (drop k rules) name ≡ found
    → rule_in (drop (k + 1) names) (drop (k + 1) rules) name ≡ found
rule_past names rules name other found k same h here apart is =
    let within : k < length rules = omega arith in
    let rest : Option LegalRule = rule_in (drop (k + 1) names) (drop (k + 1) rules) name in
    sym (ap (λ ns. rule_in ns (drop k rules) name) (drop_more names k other h)
    ∙ ap (λ rs. rule_in (get_or names k other ∷ drop (k + 1) names) rs name) (drop_more rules k TypesOwn within)
    ∙ ap (λ n. if bytes_eq n name then Some (get_or rules k TypesOwn) else rest) (sym here)
    ∙ ap (λ t. if t then Some (get_or rules k TypesOwn) else rest) apart)
    ∙ is

at_name : (t : Bool) (r : LegalRule) (rest : Option LegalRule) (among : Bool) → is_some rest ≡ among → is_some (if t then Some r else rest) ≡ (t || among)
at_name true r rest among e = refl
at_name false r rest among e = e

has_rule : (names : List (List ℕ)) (rules : List LegalRule) (name : List ℕ) → length rules ≡ length names → is_some (rule_in names rules name) ≡ is_among names name
has_rule [] rules name e = refl
has_rule (n ∷ ns) [] name e = absurd (omega arith)
has_rule (n ∷ ns) (r ∷ rs) name e = at_name (bytes_eq n name) r (rule_in ns rs name) (is_among ns name) (has_rule ns rs name (omega arith))

other_name : (b : Bool) → may_be_at (if b then says.Illegal else says.Unknown) ≡ false
other_name true = refl
other_name false = refl

by_rule : (o : Option LegalRule) (among b : Bool) → is_some o ≡ among → may_be_at (dynamic_or o (if b then says.Illegal else says.Unknown)) ≡ among
by_rule None among b e = other_name b ∙ e
by_rule (Some r) among b e = e

by_list : (a among : Bool) (l : Legality) → may_be_at l ≡ among → may_be_at (if a then says.Legal else l) ≡ (a || among)
by_list true among l e = refl
by_list false among l e = e

-- a target allows the names that are always legal and those that have a rule
pub allows : (t : code.Target) → Allows (target_of t) t.names
allows t name =
    by_list (is_among t.names.always name) (is_among t.names.dynamic name) _
    (by_rule (rule_in t.names.dynamic t.rules.items name) (is_among t.names.dynamic name) (is_among t.illegal name) (has_rule t.names.dynamic t.rules.items name t.as_many))
