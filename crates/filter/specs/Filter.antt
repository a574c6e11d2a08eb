-- The partial-network filter's decision on a received PDU. Assumes nothing.
use Rattle.std.specs.Prelude.{ℕ, Bool, true, false, cond, ◌&&◌, ◌||◌, List, eqb, length, Result, Ok, Err}
use Rattle.answers.specs.declared.Refusal.{Refusal}
use Rattle.answers.specs.declared.Refusal.TheVariants.{Length}
use Rattle.answers.specs.Answers.{Answer, answer_to}
use Rattle.bits.specs.Bits.{bit_of, some_masked}

-- bit 6 of the control bit vector, the partial network information bit (PNI), says that the PDU carries PN bytes
abbrev pub informs : ℕ → Bool
informs cbv = bit_of cbv 6

-- kept: all messages keep awake, or the PDU has PN information and some PN byte meets its mask byte
unfoldable pub keeps : Bool → ℕ → List ℕ → List ℕ → Bool
keeps awake cbv pn mask = awake || informs cbv && some_masked pn mask

-- the decision, the filter taken as on; PN bytes and mask that are unequal in length are refused first
unfoldable pub verdict_of : Bool → ℕ → List ℕ → List ℕ → Result Bool Refusal
verdict_of awake cbv pn mask = cond (eqb (length pn) (length mask)) (Ok (keeps awake cbv pn mask)) (Err Length)

-- a verdict's answer, and the value beside it: 1 for kept
abbrev pub verdict_answer : Result Bool Refusal → Answer
verdict_answer v = answer_to v

abbrev pub verdict_value : Result Bool Refusal → ℕ
verdict_value (Ok true) = 1
verdict_value (Ok false) = 0
verdict_value (Err refusal) = 0
