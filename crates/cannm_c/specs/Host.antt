-- What the C host gets: answer number, rule and values. Assumes nothing.
use Rattle.std.specs.Prelude.{ℕ, not, List, eqb, Result}
use Rattle.std.specs.Result.{result_unwrap_or}
use Rattle.answers.specs.declared.BrokenRule.{BrokenRule}
use Rattle.answers.specs.Answers.{number_of, rule_of, ruled}
use Rattle.ticks.specs.Ticks.{conversion_of}
use Rattle.config.specs.declared.Layout.{Layout}
use Rattle.pdu.specs.Pdu.{Taken, header_reading}
use Rattle.filter.specs.Filter.{verdict_of, verdict_answer, verdict_value}
use Rattle.cannm_c.specs.declared.TicksResult.{TicksResult}
use Rattle.cannm_c.specs.declared.FilterResult.{FilterResult}
use Rattle.cannm_c.specs.declared.HeaderResult.{HeaderResult}

-- the conversion: a broken rule is an answer of its own
abbrev pub converted : Result ℕ BrokenRule → TicksResult
converted t = record { answer = number_of (ruled t); rule = rule_of (ruled t); ticks = result_unwrap_or t 0 }

unfoldable pub converted_for : ℕ → ℕ → TicksResult
converted_for period ms = converted (conversion_of period ms)

-- the filter: any number but 0 says that all messages keep awake
unfoldable pub decided_for : ℕ → ℕ → List ℕ → List ℕ → FilterResult
decided_for awake cbv pn mask =
    record {
      answer = number_of (verdict_answer (verdict_of (not (eqb awake 0)) cbv pn mask));
      keep = verdict_value (verdict_of (not (eqb awake 0)) cbv pn mask);
    }

-- the reading of the header
abbrev pub layout_of : ℕ → ℕ → ℕ → Layout
layout_of length sni cbv = record { length = length; sni = sni; cbv = cbv }

abbrev pub seen : Taken → HeaderResult
seen t = record { answer = number_of t.answer; rule = rule_of t.answer; sni = t.fields.sni; cbv = t.fields.cbv }

unfoldable pub read_for : ℕ → ℕ → ℕ → List ℕ → HeaderResult
read_for length sni cbv pdu = seen (header_reading (layout_of length sni cbv) pdu)
