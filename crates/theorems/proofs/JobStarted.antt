-- A job from a start that was taken, after any calls: what the start has begun, and what following it brings.
use Rattle.std.specs.Prelude.{Option, None, Result, Ok, Err, Some}
use Prim.Native.Nat.{ℕ}
use mathlib.Core.Path.{◌≡◌, ◌∙◌, refl, subst}
use mathlib.Core.List.{List, []}
use mathlib.Core.Logic.{inl, inr}
use Rattle.codec.specs.Bytes.{Bytes}
use Rattle.manager.specs.Calls.{After, Call, Job, called, job_room, replies, start_job, starts, turns}
use Rattle.theorems.specs.Quiet.{Holding, holding}
use Rattle.theorems.specs.Run.{Event, Host, made, next, reached, run, starting}
use Rattle.theorems.specs.Sound.{Reached, Sound}
use Rattle.theorems.specs.Story.{Gave, Log, follow, untold}
use Rattle.theorems.specs.Types.{Answer, End, Now, Reason, Refusal, SdoClientConnection as Connection}
use Rattle.theorems.proofs.AllReached.{all_sound, call_sound}
use Rattle.theorems.proofs.Followed.{Brings, Still, followed}
use Rattle.theorems.proofs.JobKept.{AwaitsAs, Ending, Kept, Running}
use Rattle.theorems.proofs.JobStarts.{began, started_runs}
use Rattle.theorems.proofs.NodeView.{Apart, NodeView, answers, begins, idles, rests, steps, unknown}
use Rattle.theorems.proofs.NodeSees.{call_view}

-- ---- what a start that was taken has begun
pub record Started (job : Job) (n : Now) (after : Holding) : Type 0 where
  pub before : Connection
  pub number : ℕ
  pub room : Bytes
  pub begun : Connection
  pub is : start_job job before number n room ≡ Ok begun
  pub held : after ≡ Some (begun, job_room job room)

module _ (node : ℕ) where
  abbrev StartsIf : Call → Answer → Holding → Type 0
  StartsIf (starts k job n) Answer.Nothing after = k ≡ node → Started job n after
  StartsIf (starts k job n) (Answer.Sent s) after = Unit {0}
  StartsIf (starts k job n) (Answer.Value part) after = Unit {0}
  StartsIf (starts k job n) (Answer.Refused r) after = Unit {0}
  StartsIf (turns t n) a after = Unit {0}
  StartsIf (replies k seq cmd payload) a after = Unit {0}

  apart_starts : (x : Call) (a : Answer) → Apart node x a → (after : Holding) → StartsIf x a after
  apart_starts (starts k job n) Answer.Nothing (inl ne) after = λ e. absurd (ne e)
  apart_starts (starts k job n) Answer.Nothing (inr p) after = absurd p
  apart_starts (starts k job n) (Answer.Sent s) p after = tt
  apart_starts (starts k job n) (Answer.Value part) p after = tt
  apart_starts (starts k job n) (Answer.Refused r) p after = tt
  apart_starts (turns t n) a p after = tt
  apart_starts (replies k seq cmd payload) a p after = tt

  view_starts : {h : Holding} {x : Call} {a : Answer} {g : Gave} {e : Option End} {i : Holding} {b : Bytes} → NodeView node h x a g e i b
      → StartsIf x a i
  view_starts (rests {h} {x} {a} p) = apart_starts x a p h
  view_starts unknown = tt
  view_starts (begins {h} {job} {n} {d} c t room seat e) =
      λ same. record { before = c; number = t; room = room; begun = d; is = e; held = refl }
  view_starts idles = tt
  view_starts (steps e) = tt
  view_starts (answers e) = tt

-- what a start is answered is what its call answers
answered : (h : Host) (node : ℕ) (job : Job) (now : Now)
    → (called h.manager h.store [] (starts node job now)).done.answer ≡ (made h (starting node job now)).done.answer
answered h node job now = refl

-- a start that was taken, after any calls
module _ (lent : Bytes) (earlier : List Event) (node : ℕ) (job : Job) (now : Now) where
  abbrev pub host : Host
  host = reached lent earlier

  abbrev pub start : After
  start = made host (starting node job now)

  abbrev pub after : Host
  after = next host (starting node job now)

  pub before_sound : Sound host.manager host.store
  unfolding Reached
  before_sound = all_sound lent earlier

  pub start_sound : Sound after.manager after.store
  start_sound = call_sound (starts node job now) host.manager host.store [] before_sound

  module _ (e : start.done.answer ≡ Answer.Nothing) where
    pub started : Started job now (holding after.manager after.store node)
    started =
        subst (λ (a : Answer). StartsIf node (starts node job now) a (holding after.manager after.store node))
        (answered host node job now ∙ e)
        (view_starts node (call_view host.manager host.store before_sound node [] (starts node job now))) refl

    -- nothing waits at the start
    abbrev Fresh : Result Connection Refusal → Type 0
    Fresh (Ok d) = AwaitsAs untold.awaits d.waiting.last_sent_command d.last_received_sequence_number
    Fresh (Err r) = Unit {0}

    module _ (entries : List Bytes) (Runs : Running) (Ends : Ending) (kept : Kept entries Runs Ends)
        (is : Runs untold (job_room job started.room) started.begun.state started.begun.job) where
      still : Still entries Runs Ends kept node untold after
      still =
          record {
            held_by = started.begun;
            room = job_room job started.room;
            held = started.held;
            on =
                record {
                  runs = started_runs job started.before started.begun started.number now started.room started.is;
                  awaits =
                      subst Fresh (began job started.before started.begun started.number now started.room started.is).2 refl;
                  is = is;
                };
          }

      pub brings : (later : List Event)
          → Brings entries Runs Ends kept node (follow entries node untold after later) (run after later)
      brings later = followed entries Runs Ends kept node later untold after start_sound still

-- a log that runs says what is still held
pub running : {entries : List Bytes} {Runs : Running} {Ends : Ending} {kept : Kept entries Runs Ends} {node : ℕ} (l : Log) (h : Host)
    → Brings entries Runs Ends kept node l h → l.outcome ≡ None → Still entries Runs Ends kept node l.story h
running {entries} {Runs} {Ends} {kept} {node} l h b e =
    subst (λ (x : Option Reason). Brings entries Runs Ends kept node (record { story = l.story; outcome = x; figure = l.figure }) h) e b
