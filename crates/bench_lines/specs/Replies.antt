-- What the bench prints for a line.
--
--   outcome_reply   the reply to a suite's decision on a move
--   commit_reply    the reply to a commit
--   ruling_reply    the reply to a take, if the message has no fault
--   answer_reply    the reply to an accepted call
--   reply_of        the reply to a call
--   reply_words     the words of a reply
--   reply_text      what it prints as
--   IsReply         a reply whose number is one of 64 bits
use Rattle.std.specs.Prelude.{ℕ, ⊤, List, [], ◌∷◌, Some, None, Option, Ok, Err, Result, codes, decimal}
use Rattle.std.specs.List.{join_with_byte}
use Rattle.bench_lines.specs.Printing.{IsNumber, setting_words}
use Rattle.bench_lines.specs.declared.reply.Reply.{Reply}
use Rattle.bench_lines.specs.declared.reply.Reply.TheVariants.{Okay, Snapshot, Set, Sent, ReadOnly, Done, Clash, No, Bad}
use Rattle.history.specs.declared.call.Answer.{Answer}
use Rattle.history.specs.declared.call.Answer.TheVariants.{Began, Setting, Written, Committed, Abandoned, Collected, Settled, Taken}
use Rattle.refusals.specs.Numbers.{refusal_number}
use Rattle.refusals.specs.declared.Refusal.{Refusal}
use Rattle.session.specs.declared.ruling.CommitAnswer.{CommitAnswer}
use Rattle.session.specs.declared.ruling.CommitAnswer.TheVariants.{Sent as SentOff, ReadOnly as OnlyRead, Clash as ClashAtHome}
use Rattle.session.specs.declared.ruling.Outcome.{Outcome}
use Rattle.session.specs.declared.ruling.Outcome.TheVariants.{Clash as ClashRuled, Commit}
use Rattle.session.specs.declared.ruling.Ruling.{Ruling}
use Rattle.session.specs.declared.ruling.Ruling.TheVariants.{Void, Decided}
use Rattle.settings.specs.declared.colour.Colour.{Colour}

-- the reply to a suite's decision on a move
abbrev pub outcome_reply : Outcome → Reply
outcome_reply (ClashRuled node) = Clash node
outcome_reply (Commit stamp) = Done stamp

-- the reply to a commit
abbrev pub commit_reply : CommitAnswer → Reply
commit_reply SentOff = Sent
commit_reply (OnlyRead snapshot) = ReadOnly snapshot
commit_reply (ClashAtHome node) = Clash node

-- the reply to a take, if the message has no fault
abbrev pub ruling_reply : Ruling → Option Reply
ruling_reply (Void fault) = None
ruling_reply (Decided outcome) = Some (outcome_reply outcome)

-- the reply to an accepted call
abbrev pub answer_reply : Answer Colour → Option Reply
answer_reply (Began snapshot) = Some (Snapshot snapshot)
answer_reply (Setting colour) = Some (Set colour)
answer_reply Written = Some Okay
answer_reply (Committed answer) = Some (commit_reply answer)
answer_reply Abandoned = Some Okay
answer_reply (Collected outcome) = Some (outcome_reply outcome)
answer_reply Settled = Some Okay
answer_reply (Taken ruling) = ruling_reply ruling

-- the reply to a call
abbrev pub reply_of : Result (Answer Colour) Refusal → Option Reply
reply_of (Ok answer) = answer_reply answer
reply_of (Err refusal) = Some (No refusal)

-- the words of a reply
abbrev pub reply_words : Reply → List (List ℕ)
reply_words Okay = codes "ok" ∷ []
reply_words (Snapshot snapshot) = codes "ok" ∷ decimal snapshot ∷ []
reply_words (Set colour) = codes "set" ∷ setting_words colour
reply_words Sent = codes "sent" ∷ []
reply_words (ReadOnly snapshot) = codes "read" ∷ decimal snapshot ∷ []
reply_words (Done stamp) = codes "done" ∷ decimal stamp ∷ []
reply_words (Clash node) = codes "clash" ∷ decimal node ∷ []
reply_words (No refusal) = codes "no" ∷ decimal (refusal_number refusal) ∷ []
reply_words Bad = codes "bad" ∷ []

-- what it prints as: its words, with one space between each two
abbrev pub reply_text : Reply → List ℕ
reply_text r = join_with_byte 32 (reply_words r)

-- a reply whose number, if it has one, is one of 64 bits, as that of every reply is
abbrev pub IsReply : Reply → Type 0
IsReply Okay = ⊤
IsReply (Snapshot snapshot) = IsNumber snapshot
IsReply (Set colour) = ⊤
IsReply Sent = ⊤
IsReply (ReadOnly snapshot) = IsNumber snapshot
IsReply (Done stamp) = IsNumber stamp
IsReply (Clash node) = IsNumber node
IsReply (No refusal) = ⊤
IsReply Bad = ⊤
