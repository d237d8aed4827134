use Rattle.printed_terms.proofs.SeenWords.{seen, told}
use Rattle.printed_terms.proofs.TypeTerms.{type_terms}
use Rattle.printed_terms.proofs.laws.law_types_are_told.Goals as goal

pub returns : goal.returns
returns c = λ words wording aliases inside gap t rest es f h.
    let k = type_terms words wording (λ es. Unit {0}) aliases inside gap t rest es f (seen words wording (λ es. Unit {0}) (λ e es u. tt) tt h) in
    record { behind = k.behind; told = told words wording (λ es. Unit {0}) k.told; terms = k.terms }
