-- The spans of the tokens of a text.
use Rattle.std.proofs.Common.{◌≡◌, ℕ, ◌+◌, ◌-◌, ◌<◌, ◌≤◌, suc, zero, List, [], ◌∷◌, ◌++◌, length, take, drop, Option, Some, None, Result, Err, refl, sym, ap, ◌∙◌, subst, arith, append_assoc, length-append}
use Rattle.std.specs.List.{All}
use Rattle.std.proofs.lemmas.List.{drop_at, take_at, take-append-drop, length-take, get_or_append_left}
use Rattle.mlir_lex.specs.declared.Token.{Token}
use Rattle.mlir_lex.specs.declared.TokenKind.{TokenKind}
use Rattle.mlir_lex.specs.declared.LexFault.{LexFault}
use Rattle.mlir_lex.specs.Tokens.{IsToken, IsLongest}
use Rattle.mlir_lex.specs.declared.LexKind.{LexKind}
use Rattle.mlir_lex.specs.declared.LexKind.TheVariants.{BadByte, OpenString, BadEscape}
use Rattle.mlir_lex.specs.Text.{Stands, BeginsWith, LexesFrom, Lexes}
use Rattle.mlir_lex.specs.Scan.{length_of_some, token_len}
use Rattle.mlir_lex.specs.Text.{first_of}
use Rattle.mlir_lex.proofs.GapLemmas.{longest-front}
use Rattle.mlir_lex.proofs.FaultLemmas.{stands-meets}
use Rattle.mlir_lex.specs.Laws.{bytes_between, AreInOrder, NoFaultsAt, GapsAreBlank, IsLongestIn, AreLongestIn}
use Rattle.mlir_lex.proofs.TokenLemmas.{token-some}

-- a token of a text, by its length
fits : (at : ℕ) (text : List ℕ) (t : Token) (rest : List ℕ) → BeginsWith at text t rest → (at ≤ t.start) × (t.start < t.end) × (t.end + length rest ≡ at + length text)
fits at text t rest b =
    let some = token-some t.kind b.piece b.longest.is in
    (omega (arith, b.start), omega (arith, b.end, some), omega (arith, b.start, b.end, ap length b.whole, length-append b.gap (b.piece ++ rest), length-append b.piece rest))

in-order : (tokens : List Token) (at end : ℕ) (text : List ℕ) (fault : Option LexFault) → LexesFrom at text tokens fault → at + length text ≡ end → AreInOrder at end tokens
unfolding LexesFrom
in-order [] at end text fault h e = omega (arith, e)
in-order (t ∷ ts) at end text fault (rest, b, more) e =
    let f = fits at text t rest b in
    (f.0, f.1, in-order ts t.end end rest fault more (omega (arith, e, f.2)))

pub lexes-in_order : (text : List ℕ) (tokens : List Token) (fault : Option LexFault) → Lexes text tokens fault → AreInOrder 0 (length text) tokens
unfolding Lexes
lexes-in_order text tokens fault h = in-order tokens 0 (length text) text fault h (omega arith)

-- each token lies within the text
order-end : (from end : ℕ) (tokens : List Token) → AreInOrder from end tokens → from ≤ end
order-end from end [] h = h
order-end from end (t ∷ ts) (a, b, more) = omega (arith, a, b, order-end t.end end ts more)

order-within : (from end : ℕ) (tokens : List Token) → AreInOrder from end tokens → All (λ (t : Token). (t.start < t.end) × (t.end ≤ end)) tokens
order-within from end [] h k d l = absurd (omega (arith, l))
order-within from end (t ∷ ts) (a, b, more) zero d l = (b, order-end t.end end ts more)
order-within from end (t ∷ ts) (a, b, more) (suc k) d l = order-within t.end end ts more k d (omega (arith, l))

pub lexes-within : (text : List ℕ) (tokens : List Token) (fault : Option LexFault) → Lexes text tokens fault → All (λ (t : Token). (t.start < t.end) × (t.end ≤ length text)) tokens
lexes-within text tokens fault h = order-within 0 (length text) tokens (lexes-in_order text tokens fault h)

-- those that are found already
pub found-within : (text : List ℕ) (found left : List Token) (fault : Option LexFault) → Lexes text (found ++ left) fault → All (λ (t : Token). (t.start < t.end) × (t.end ≤ length text)) found
found-within text found left fault h k d l =
    let all = lexes-within text (found ++ left) fault h k d (omega (arith, l, length-append found left)) in
    let e = get_or_append_left found left d k l in
    rw e at all

-- the text behind a front
behind : (before text front back : List ℕ) → text ≡ front ++ back → before ++ text ≡ (before ++ front) ++ back
behind before text front back whole = ap (λ x. before ++ x) whole ∙ sym (append_assoc before front back)

dropped : (whole front back : List ℕ) (n : ℕ) → whole ≡ front ++ back → n ≡ length front → drop n whole ≡ back
dropped whole front back n e len = ap (drop n) e ∙ drop_at front back n (sym len)

-- only white space and comments stand between them
gaps-blank : (tokens : List Token) (whole before : List ℕ) (at : ℕ) (text : List ℕ) (fault : Option LexFault) → LexesFrom at text tokens fault → whole ≡ before ++ text → length before ≡ at → GapsAreBlank whole at tokens
unfolding LexesFrom
gaps-blank [] whole before at text fault h e len = tt
gaps-blank (t ∷ ts) whole before at text fault (rest, b, more) e len =
    let start = dropped whole before text at e (sym len) in
    let there = dropped whole (before ++ b.gap) (b.piece ++ rest) t.start (e ∙ behind before text b.gap (b.piece ++ rest) b.whole) (omega (arith, b.start, len, length-append before b.gap)) in
    let gap : bytes_between whole at t.start ≡ b.gap = ap (take (t.start - at)) (start ∙ b.whole) ∙ take_at b.gap (b.piece ++ rest) (t.start - at) (omega (arith, b.start)) in (
      rw (gap, there) b.is_gap,
      gaps-blank ts whole ((before ++ b.gap) ++ b.piece) t.end rest fault more
          (e ∙ behind before text b.gap (b.piece ++ rest) b.whole ∙ sym (append_assoc (before ++ b.gap) b.piece rest))
          (omega (arith, b.start, b.end, len, length-append before b.gap, length-append (before ++ b.gap) b.piece)),
    )

pub lexes-gaps : (text : List ℕ) (tokens : List Token) (fault : Option LexFault) → Lexes text tokens fault → GapsAreBlank text 0 tokens
unfolding Lexes
lexes-gaps text tokens fault h = gaps-blank tokens text [] 0 text fault h refl refl

-- each is the longest at its place
longest-in : (whole before : List ℕ) (t : Token) (piece rest : List ℕ) → IsLongest t.kind piece rest → whole ≡ before ++ (piece ++ rest) → length before ≡ t.start → t.end ≡ t.start + length piece → IsLongestIn whole t
longest-in whole before t piece rest l e len end =
    let there = dropped whole before (piece ++ rest) t.start e (sym len) in
    let own : bytes_between whole t.start t.end ≡ piece = ap (take (t.end - t.start)) there ∙ take_at piece rest (t.end - t.start) (omega (arith, end)) in
    (rw own l.is, none_longer there)
  where
    none_longer : drop t.start whole ≡ piece ++ rest → (kind : TokenKind) (stop : ℕ) → IsToken kind (bytes_between whole t.start stop) → stop ≤ length whole → stop ≤ t.end
    none_longer there kind stop is le =
        let is' = rw there at is in
        let short = l.longest kind (take (stop - t.start) (piece ++ rest)) (drop (stop - t.start) (piece ++ rest)) is' (take-append-drop (stop - t.start) (piece ++ rest)) in
        omega (arith, short, length-take (stop - t.start) (piece ++ rest), le, ap length e, length-append before (piece ++ rest), len, end)

all-longest : (tokens : List Token) (whole before : List ℕ) (at : ℕ) (text : List ℕ) (fault : Option LexFault) → LexesFrom at text tokens fault → whole ≡ before ++ text → length before ≡ at → AreLongestIn whole tokens
unfolding LexesFrom
all-longest [] whole before at text fault h e len = tt
all-longest (t ∷ ts) whole before at text fault (rest, b, more) e len =
    let there = e ∙ behind before text b.gap (b.piece ++ rest) b.whole in (
      longest-in whole (before ++ b.gap) t b.piece rest b.longest there (omega (arith, b.start, len, length-append before b.gap)) b.end,
      all-longest ts whole ((before ++ b.gap) ++ b.piece) t.end rest fault more (there ∙ sym (append_assoc (before ++ b.gap) b.piece rest)) (omega (arith, b.start, b.end, len, length-append before b.gap, length-append (before ++ b.gap) b.piece)),
    )

pub lexes-longest : (text : List ℕ) (tokens : List Token) (fault : Option LexFault) → Lexes text tokens fault → AreLongestIn text tokens
unfolding Lexes
lexes-longest text tokens fault h = all-longest tokens text [] 0 text fault h refl refl

-- the place of a fault is in the text
stands-within : (kind : LexKind) (at : ℕ) (text : List ℕ) (place : ℕ) → Stands kind at text place → (at ≤ place) × (place < at + length text)
unfolding Stands
stands-within BadByte at text place s = (omega (arith, s.here), omega (arith, s.here, ap length s.is))
stands-within OpenString at text place s = (omega (arith, s.here), omega (arith, s.here, ap length s.is, length-append s.lead (34 ∷ s.inside)))
stands-within BadEscape at text place s = (omega (arith, s.here), omega (arith, s.here, ap length s.is, length-append s.lead (34 ∷ (s.good ++ s.bad)), length-append s.good s.bad, ap length s.is_bad.is))

-- and behind each token
fault-follows : (tokens : List Token) (at : ℕ) (text : List ℕ) (fault : LexFault) → LexesFrom at text tokens (Some fault) → AreInOrder at fault.place tokens × (fault.place < at + length text)
unfolding LexesFrom
fault-follows [] at text fault f =
    let within = stands-within fault.kind (at + length f.gap) f.rest fault.place f.stands in
    (omega (arith, within.0), omega (arith, within.1, ap length f.whole, length-append f.gap f.rest))
fault-follows (t ∷ ts) at text fault (rest, b, more) =
    let f = fits at text t rest b in
    let follows = fault-follows ts t.end rest fault more in
    ((f.0, f.1, follows.0), omega (arith, follows.1, f.2))

-- no fault stands where a token does
token-no-fault : (kind : TokenKind) (piece rest : List ℕ) → IsLongest kind piece rest → (fault : LexKind) (at place : ℕ) → Stands fault at (piece ++ rest) place → ⊥
unfolding token_len
token-no-fault kind piece rest l fault at place s =
    let long = longest-front kind piece rest l in
    let none = (stands-meets fault at (piece ++ rest) place s).no_token in
    omega (arith, long.1, long.2, sym (ap (λ k. length_of_some k (piece ++ rest)) long.0) ∙ none)

no-faults : (tokens : List Token) (whole before : List ℕ) (at : ℕ) (text : List ℕ) (fault : Option LexFault) → LexesFrom at text tokens fault → whole ≡ before ++ text → length before ≡ at → NoFaultsAt whole tokens
unfolding LexesFrom
no-faults [] whole before at text fault h e len = tt
no-faults (t ∷ ts) whole before at text fault (rest, b, more) e len =
    let there = e ∙ behind before text b.gap (b.piece ++ rest) b.whole in
    let start = dropped whole (before ++ b.gap) (b.piece ++ rest) t.start there (omega (arith, b.start, len, length-append before b.gap)) in (
      (λ kind place s. token-no-fault t.kind b.piece rest b.longest kind t.start place (let P : List ℕ → Type 0 = λ x. Stands kind t.start x place in subst P start s)),
      no-faults ts whole ((before ++ b.gap) ++ b.piece) t.end rest fault more (there ∙ sym (append_assoc (before ++ b.gap) b.piece rest)) (omega (arith, b.start, b.end, len, length-append before b.gap, length-append (before ++ b.gap) b.piece)),
    )

pub lexes-fault : (text : List ℕ) (tokens : List Token) (fault : LexFault) → Lexes text tokens (Some fault) → NoFaultsAt text tokens × AreInOrder 0 fault.place tokens × (fault.place < length text)
unfolding Lexes
lexes-fault text tokens fault h =
    let f = fault-follows tokens 0 text fault h in
    (no-faults tokens text [] 0 text (Some fault) h refl refl, f.0, omega (arith, f.1))

-- the fault that `next` gives is that of the text
fault-given : (tokens : List Token) (fault : Option LexFault) (e : LexFault) → ◌≡◌ {A = Result (Option Token) LexFault} (Err e) (first_of tokens fault) → fault ≡ Some e
fault-given [] None e h = absurd cc
fault-given [] (Some f) e h = cc
fault-given (t ∷ ts) fault e h = absurd cc

pub given-within : (text : List ℕ) (tokens left : List Token) (fault : Option LexFault) (e : LexFault) → Lexes text tokens fault → ◌≡◌ {A = Result (Option Token) LexFault} (Err e) (first_of left fault) → e.place < length text
given-within text tokens left fault e h given =
    let P : Option LexFault → Type 0 = λ f. Lexes text tokens f in
    (lexes-fault text tokens e (subst P (fault-given left fault e given) h)).2
