-- In which tick a channel sleeps (demand 3): the claims, with no proof. They are stated for a channel in any host: A is what the
-- host is called with, `mode xs` the channel's mode after the list xs, `okay xs` whether the channel is sound then, and
-- `calls xs` the calls that have reached the channel. For a channel alone the host's calls are the channel's. Assumes nothing.
use Rattle.std.specs.Prelude.{◌+◌, ◌≤◌, ◌≡◌, Bool, true, false, List, [], ◌∷◌, ◌++◌, ◌↔◌, Ok}
use Rattle.config.specs.declared.Config.{Config}
use Rattle.config.specs.Times.{Ticks}
use Rattle.rules.specs.Rules.{first_broken}
use Rattle.time_rules.specs.TimeRules.{ticks_for}
use Rattle.states.specs.declared.State.TheVariants.{BusSleep}
use Rattle.states.specs.declared.Mode.{Mode}
use Rattle.decision.specs.Decision.{Call}
use Rattle.channel.specs.declared.state.Channel.{Channel}
use Rattle.channel.specs.Channel.{fresh, is_tick, replied, sound}
use Rattle.sleep.specs.Summary.{none, ago, Summary, blank, shown, summarised, history}
use Rattle.sleep.specs.Quiet.{Quiet, Unkept, answered, kept, ticks_in}

-- one more call of the host brings the channel no call, or one
pub data Told (us : List Call) : List Call → Type 0 where
  deaf : Told us us
  told : (y : Call) → Told us (us ++ (y ∷ []))

-- Bus-Sleep is entered between two modes
pub record Enters (m n : Mode) : Type 0 where
  pub before : m.state ≡ BusSleep → ⊥
  pub now : n.state ≡ BusSleep

-- a tick, answered 0, that is the (T+W)-th since the last keep-awake and finds sending enabled
pub record Due (c : Config) (t : Ticks) (b : Summary) (x : Call) : Type 0 where
  pub tick : is_tick x ≡ true
  pub zero : answered c t b x ≡ true
  pub nth : (summarised c t b x).since ≡ ago (t.timeout + t.wait)
  pub sending : b.sending ≡ true

pub record Sleeps (c : Config) (t : Ticks) (A : Type 0) (mode : List A → Mode) (okay : List A → Bool) (calls : List A → List Call) : Type 0 where
  -- every state reached is sound
  pub sound : (xs : List A) → okay xs ≡ true
  -- a call of the host brings the channel at most one call
  pub hears : (xs : List A) (x : A) → Told (calls xs) (calls (xs ++ (x ∷ [])))
  -- after every call the channel is in the state that the calls alone show, requested, enabled and filtering as they say
  pub agrees : (xs : List A) → (mode xs).state ≡ shown t (history c t blank (calls xs))
  pub same : (xs : List A)
      → ((history c t blank (calls xs)).requested ≡ (mode xs).requested) × ((history c t blank (calls xs)).sending ≡ (mode xs).sending) × ((history c t blank (calls xs)).filter ≡ (mode xs).filter)
  -- Bus-Sleep is entered in exactly the due ticks
  pub enters : (xs : List A) (x : A) (y : Call) → calls (xs ++ (x ∷ [])) ≡ calls xs ++ (y ∷ [])
      → Enters (mode xs) (mode (xs ++ (x ∷ []))) ↔ Due c t (history c t blank (calls xs)) y
  -- a call of the host that brings it none leaves its mode
  pub unmoved : (xs : List A) (x : A) → calls (xs ++ (x ∷ [])) ≡ calls xs → mode (xs ++ (x ∷ [])) ≡ mode xs
  -- k counts the ticks answered 0 since the last keep-awake; it is none if there was no keep-awake
  pub counts : (xs : List A) (ys : List Call) (x : Call) (zs : List Call) → calls xs ≡ ys ++ (x ∷ zs)
      → kept c t (history c t blank ys) x ≡ true → Unkept c t (summarised c t (history c t blank ys) x) zs
      → (history c t blank (calls xs)).since ≡ ago (ticks_in c t (summarised c t (history c t blank ys) x) zs)
  pub counts_none : (xs : List A) → Unkept c t blank (calls xs) → (history c t blank (calls xs)).since ≡ none
  -- once released, enabled and left quiet, the channel is in Bus-Sleep after R+T+W ticks, and stays
  pub sleeps : (xs ys : List A) (zs : List Call) → calls (xs ++ ys) ≡ calls xs ++ zs → (mode xs).requested ≡ false
      → (mode xs).sending ≡ true → Quiet c t (history c t blank (calls xs)) zs
      → t.repeat + (t.timeout + t.wait) ≤ ticks_in c t (history c t blank (calls xs)) zs → (mode (xs ++ ys)).state ≡ BusSleep
  -- and a quiet list leaves a channel that is in Bus-Sleep there
  pub rests : (xs ys : List A) (zs : List Call) → calls (xs ++ ys) ≡ calls xs ++ zs → (mode xs).state ≡ BusSleep
      → Quiet c t (history c t blank (calls xs)) zs → (mode (xs ++ ys)).state ≡ BusSleep

-- ---- the channel alone

-- after a list of calls, each by the definition that its contract cites
abbrev pub after : Channel → List Call → Channel
after ch [] = ch
after ch (x ∷ xs) = after (replied ch x).channel xs

-- from initialisation
abbrev pub reached : Config → List Call → Channel
reached c xs = after (fresh c (ticks_for c)) xs

-- the claims of a channel that was initialised with the configuration c
abbrev pub ChannelSleeps : Config → Type 0
ChannelSleeps c =
    Sleeps c (ticks_for c) Call (λ xs. (reached c xs).own.mode) (λ xs. sound (reached c xs)) (λ xs. xs)

-- for every configuration that passes
abbrev pub EveryChannelSleeps : Type 0
EveryChannelSleeps = (c : Config) → first_broken c ≡ Ok tt → ChannelSleeps c
