-- Steps that the code of the calls goes by: a channel moved by a rule, and a call that is answered. Assumes nothing.
use Rattle.std.specs.Prelude.{ℕ, Bool, false, cond}
use Rattle.answers.specs.Answers.{Answer, Done}
use Rattle.channel.specs.declared.state.Channel.{Channel}
use Rattle.channel.specs.declared.state.Reply.{Reply}
use Rattle.decision.specs.declared.Rule.{Rule}
use Rattle.mode_transitions.specs.ModeTransitions.{mode_by}
use Rattle.traffic_transitions.specs.TrafficTransitions.{traffic_by}
use Rattle.traffic.specs.Traffic.{setup_of}
use Rattle.notes.specs.Notes.{first_by, second_by}
use Rattle.decision.specs.declared.Rule.TheVariants.{Keep}
use Rattle.decision.specs.Decision.{is_not_here, rule_of}
use Rattle.refusals.specs.Refusals.{first_of, is_done, judged}
use Rattle.channel.specs.Channel.{notes, refused, sound}

-- moved by a rule; ei and er say whether the vectors changed
unfoldable pub moved_by : Channel → Rule → Bool → Bool → Bool → Reply
moved_by ch rule again ei er =
    let o = ch.own in
    let after = mode_by rule again o.ticks o.mode in
    record {
      channel =
          record {
            own =
                record {
                  config = o.config;
                  ticks = o.ticks;
                  mode = after;
                  traffic = traffic_by rule again (setup_of o.config o.ticks) o.mode after o.traffic;
                  user = o.user;
                  requests = o.requests;
                  era = o.era;
                };
            eira = ch.eira;
          };
      answer = Done;
      notes = notes (first_by rule o.mode after) (second_by rule o.mode o.traffic) ei er;
      sent = false;
    }

-- answered: moved where nothing is refused
unfoldable pub finished : Channel → Answer → Rule → Bool → Reply
finished ch a rule again = cond (is_done a) (moved_by ch rule again false false) (refused ch a)

-- a call by its number, with what rows 4 and 6 of the table say of it; heeded or not
unfoldable pub plainly : Channel → ℕ → Bool → Bool → Bool → Reply
plainly ch call passive off heeded =
    finished ch (judged (sound ch) (first_of passive off (is_not_here (rule_of ch.own.mode.state call)) false))
    (cond heeded (rule_of ch.own.mode.state call) Keep)
    false
