-- Grammars as data. How a client uses them:
--
-- 1. Kinds of tokens, places and parts are three enums without fields. A place is a place of a token in a line, with a name of its own.
-- 2. `lines n` is the list of the lines of the part n. A line begins with the place of a token; behind it stand places and parts. Where a line would begin with a part, that
--    part's lines stand in its place. `x*` is a part that may be left out, with itself last in its lines.
-- 3. The client proves `IsLl` (Conditions) by `refl`, a line for each condition and not one for each line of the grammar, and has the theorems of proofs/Theorems: what `run` finds
--    is a sentence, each sentence is found, at one list of places, and a refusal is at the first token with which no sentence goes on.
-- 4. What depends on more than the kinds is a test over events (Language). proofs/Texts has the same theorems for both together.
pub mod Grammar
pub mod Machine
pub mod Conditions
pub mod Language
