-- Answers to writes.
use Rattle.std.specs.Prelude.{false, None}
use Rattle.journal_model.specs.Effects as effects
use Rattle.coap_answers.specs.declared.replies.Reply.{Reply}
use Rattle.coap_answers.specs.Replies.{reply_said}
use Rattle.rd_desk.specs.declared.write.short_replies.ShortReply.{ShortReply}

-- Returns the answer as a reply, without tag, Observe value, format and Block2.
abbrev pub as_reply : ShortReply → Reply
as_reply r = record {
  code = r.code;
  tag = None;
  observe = None;
  location = r.location;
  format = false;
  block2 = None;
  block1 = r.block1;
  payload = r.diagnostic;
}

-- Returns what the answer says.
abbrev pub short_said : ShortReply → effects.Reply
short_said r = reply_said (as_reply r)
