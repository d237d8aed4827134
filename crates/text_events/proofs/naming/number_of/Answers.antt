use Rattle.std.proofs.Common.{rules, ◌≡◌, sym, ◌∙◌, length}
use Rattle.text_events.proofs.NameLemmas.{found_name, new_name, found_stands, new_stands}
use Rattle.text_events.proofs.naming.number_of.Goals as goal

pub returns-in-Some-clause-number : goal.returns-in-Some-clause-number
returns-in-Some-clause-number c = λ text words rest word at kind same stands.
    found_name text c.args.bytes.now words rest word c.in-Some.first c.args.index (search rules) same
    (sym (c.copied.ensures ∙ (c.get.ensures.value ∙ stands c.args.bytes)) ∙ c.in-Some.is)

pub returns-in-Some-clause-seen : goal.returns-in-Some-clause-seen
returns-in-Some-clause-seen c = λ text words word at kind same stands bytes.
    found_stands text c.args.bytes.now bytes.now words word c.in-Some.first _ same
    (sym (c.copied.ensures ∙ (c.get.ensures.value ∙ stands c.args.bytes)) ∙ c.in-Some.is) (stands bytes)

pub returns-in_ok-insert-in-None-clause-number : goal.returns-in_ok-insert-in-None-clause-number
returns-in_ok-insert-in-None-clause-number c = λ text words rest word at kind same stands.
    let own : c.in-Ok.own ≡ c.args.index = search rules in
    rw own (new_name text c.args.bytes.now words rest word c.args.index (search rules) same
    (sym (c.copied.ensures ∙ (c.get.ensures.value ∙ stands c.args.bytes)) ∙ c.in-None.is) at)

pub returns-in_ok-insert-in-None-clause-seen : goal.returns-in_ok-insert-in-None-clause-seen
returns-in_ok-insert-in-None-clause-seen c = λ text words word at kind same stands bytes.
    let own : c.in-Ok.own ≡ length words = search rules in
    new_stands text c.args.bytes.now bytes.now words word _ _ (search rules) same
    (sym (c.copied.ensures ∙ (c.get.ensures.value ∙ stands c.args.bytes)) ∙ c.in-None.is) (stands bytes)
    (rw own at (c.in_ok-insert-in-None.ensures.updates.0 bytes))
