-- How a conversation is held, and what `attend` does beyond `converse`: it offers blocks, keeps to
-- what the peer accepts, and names the option that was not understood (RFC 8323 sections 5.3 to
-- 5.6).
use Rattle.std.specs.Prelude.{
  ℕ,
  ◌%◌,
  ◌==◌,
  ◌&&◌,
  Bool,
  not,
  false,
  nat_le,
  nat_lt,
  List,
  [],
  ◌∷◌,
  length,
  max,
  if◌then◌else◌,
}
use Rattle.std.specs.Prelude.{Option, Some, None, Result, Ok, Err, option_and_then}
use Rattle.std.specs.List.{list_any}
use Rattle.rd_base.specs.declared.peers.Peer.{Peer}
use Rattle.message_model.specs.declared.messages.Unread.{Unread}
use Rattle.message_model.specs.declared.options.TheConstants as numbers
use Rattle.message_model.specs.Codes as code_named
use Rattle.message_model.specs.Message.{Message, Opt}
use Rattle.message_model.specs.Numbers.{uint_of, uint_bytes}
use Rattle.message_model.specs.OptionTable.{is_critical}
use Rattle.message_model.specs.Spelling.{options_spelling, payload_spelling}
use Rattle.stream_model.specs.declared.signals.TheConstants as signals
use Rattle.stream_model.specs.Faults.{longest_message}
use Rattle.stream_model.specs.Messages.{stream_spelling}
use Rattle.stream_reader.specs.Shown.{Shown, shown_in}
use Rattle.coap_stream.specs.declared.lines.Line.{Line}
use Rattle.coap_stream.specs.declared.lines.Manner.{Manner}
use Rattle.coap_stream.specs.declared.lines.Manner.TheVariants as manner
use Rattle.coap_stream.specs.Requests.{with_options}

-- A connection with this peer, in the two manners.
abbrev pub plain_line : Peer → Line
plain_line peer = record { peer = peer; manner = manner.Plain }

abbrev pub full_line : Peer → Line
full_line peer = record { peer = peer; manner = manner.Full }

-- ---- octets

-- Returns the octets of a message with this code, token and payload, and without options.
abbrev pub saying : ℕ → List ℕ → List ℕ → List ℕ
saying code token payload =
    stream_spelling (record { code = code; token = token; tail = payload_spelling payload })

-- Returns the octets of a message with this code, token and option, and without a payload.
abbrev pub saying_with : ℕ → List ℕ → Opt → List ℕ
saying_with code token option = stream_spelling (record {
  code = code;
  token = token;
  tail = options_spelling 0 (option ∷ []);
})

-- ---- options of signals

-- The numbers of the options of signals: Max-Message-Size and Block-Wise-Transfer of a CSM (RFC
-- 8323 sections 5.3.1 and 5.3.2), Custody of a Ping and a Pong (section 5.4.1), and Bad-CSM-Option
-- of an Abort (section 5.6).
abbrev pub max_message_size : ℕ
max_message_size = 2

abbrev pub block_wise_transfer : ℕ
block_wise_transfer = 4

abbrev pub custody : ℕ
custody = 2

abbrev pub bad_csm_option : ℕ
bad_csm_option = 2

-- Returns whether an option with this number is among these.
abbrev pub has_option : ℕ → List Opt → Bool
has_option number options = list_any (λ option. option.0 == number) options

-- Returns the octets of the CSM that begins a connection (RFC 8323 section 5.3). In full, it says
-- that blocks are served.
abbrev pub opening_by : Manner → List ℕ
opening_by manner.Plain = saying signals.CSM [] []
opening_by manner.Full = saying_with signals.CSM [] (block_wise_transfer, [])

-- Returns the octets of the Pong that answers a Ping (RFC 8323 section 5.4). In full, it has
-- Custody if the Ping had it: all requests before it were done.
abbrev pub pong_by : Manner → Shown → List ℕ
pong_by manner.Plain message = saying signals.PONG message.token []
pong_by manner.Full message =
    if has_option custody message.options
    then saying_with signals.PONG message.token (custody, [])
    else saying signals.PONG message.token []

-- Returns whether an option with this number is critical (RFC 7252 section 5.4.6). Numbers have at
-- most 16 bits (section 3.1).
abbrev pub is_cause : ℕ → Bool
is_cause number = if is_critical number then nat_lt number 65_536 else false

-- Returns the number of the first critical option, if there is one.
abbrev pub first_critical : List Opt → Option ℕ
first_critical [] = None
first_critical (option ∷ options) =
    if is_cause option.0 then Some option.0 else first_critical options

-- Returns the number of the first critical option of a CSM (RFC 8323 section 5.2).
abbrev pub bad_option_of : Shown → Option ℕ
bad_option_of message =
    if message.code == signals.CSM then first_critical message.options else None

-- Returns the same of the octets of a message.
abbrev pub bad_option_in : List ℕ → Option ℕ
bad_option_in octets = option_and_then bad_option_of (shown_in octets)

-- Returns the octets of the Abort after a bad message (RFC 8323 section 5.6). In full, it names the
-- option of a CSM that was the cause.
abbrev pub abort_with : Option ℕ → List ℕ
abort_with None = saying signals.ABORT [] []
abort_with (Some number) = saying_with signals.ABORT [] (bad_csm_option, uint_bytes number)

abbrev pub abort_by : Manner → Option ℕ → List ℕ
abort_by manner.Plain bad = saying signals.ABORT [] []
abort_by manner.Full bad = abort_with bad

-- ---- when time passes

-- Returns whether time passes at the seat after a request of this number. In full it does not: the
-- workers that serve over UDP let it pass.
abbrev pub is_due : Manner → ℕ → Bool
is_due manner.Plain number = number % 64 == 0
is_due manner.Full number = false

-- ---- how long a message may be

-- The most octets of a message to a peer that has not said how many it accepts (RFC 8323 section
-- 5.3.1), and the least number that is accepted from one that says it (this project's profile).
abbrev pub usual_size : ℕ
usual_size = longest_message

abbrev pub least_size : ℕ
least_size = 64

-- Returns the number that the value of an option encodes, if it has at most four octets.
abbrev pub size_of : Opt → Option ℕ
size_of option = if nat_le (length option.1) 4 then Some (uint_of option.1) else None

-- Returns the number of the first Max-Message-Size.
abbrev pub size_in : List Opt → Option ℕ
size_in [] = None
size_in (option ∷ options) =
    if option.0 == max_message_size then size_of option else size_in options

-- Returns the most octets of a message, after one with this number, or with none.
abbrev pub size_taken : ℕ → Option ℕ → ℕ
size_taken most None = most
size_taken most (Some said) = max least_size said

-- Returns the most octets of a message to a peer after a message of it: a CSM may say a new number
-- (RFC 8323 sections 5.3 and 5.3.1).
abbrev pub size_after : ℕ → Shown → ℕ
size_after most message =
    if message.code == signals.CSM then size_taken most (size_in message.options) else most

-- ---- smaller blocks

-- Returns the exponent of the greatest block that fits a message of so many octets with 64 octets
-- for the rest of it, or none if each block fits (RFC 7959 section 2.2).
abbrev pub block_for : ℕ → Option ℕ
block_for most =
    if nat_le 1088 most then None
    else if nat_le 576 most then Some 5
    else if nat_le 320 most then Some 4
    else if nat_le 192 most then Some 3
    else if nat_le 128 most then Some 2
    else if nat_le 96 most then Some 1
    else Some 0

-- Returns whether an option is Block2 or comes after it.
abbrev pub is_from_block2 : Opt → Bool
is_from_block2 option = nat_le numbers.BLOCK2 option.0

-- Returns whether a message is a GET whose options all come before Block2.
abbrev pub is_unblocked : Message → Bool
is_unblocked m = m.code == code_named.get && not (list_any is_from_block2 m.options)

-- Returns the exponent of the blocks that a request is made to ask for, if it is (RFC 7959 section
-- 2.4).
abbrev pub block_wanted : Manner → ℕ → Message → Option ℕ
block_wanted manner.Plain most m = None
block_wanted manner.Full most m = if is_unblocked m then block_for most else None

-- Returns the message that asks for blocks with this exponent, if there is one.
abbrev pub with_block : Option ℕ → Message → Message
with_block None m = m
with_block (Some exponent) m = with_options m ((numbers.BLOCK2, uint_bytes exponent) ∷ [])

-- Returns a request as the seat handles it, for a peer that accepts messages of so many octets.
abbrev pub sized_by : Manner → ℕ → Message → Message
sized_by by most m = with_block (block_wanted by most m) m

-- Returns the octets that are written where a response is too long for its peer: 5.00 with its
-- token, and nothing if there is no response.
abbrev pub too_long_in : Result Message Unread → List ℕ
too_long_in (Ok m) = saying code_named.internal_server_error m.token []
too_long_in (Err why) = []
