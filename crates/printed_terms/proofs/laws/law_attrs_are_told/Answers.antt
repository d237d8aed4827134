use Rattle.printed_terms.proofs.SeenWords.{seen, told}
use Rattle.printed_terms.proofs.AttrTerms.{attr_terms}
use Rattle.printed_terms.proofs.laws.law_attrs_are_told.Goals as goal

pub returns : goal.returns
returns c = λ words wording aliases gap a rest es r o quiet h.
    let k = attr_terms words wording (λ es. Unit {0}) aliases gap a rest es r o quiet (seen words wording (λ es. Unit {0}) (λ e es u. tt) tt h) in
    (k.term, record { behind = k.behind; told = told words wording (λ es. Unit {0}) k.told; terms = k.terms }, k.is)
