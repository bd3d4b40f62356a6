-- The definitions that an example opens, so that they compute on octets that are written out.
use Rattle.std.specs.Prelude.{⊤}
use Rattle.std.specs.Fmt.{digits}
use Rattle.std.specs.Net.Text.{hex, hex_groups_text, ipv6_text}
use Rattle.std.specs.Net.Reader.{
  read_number,
  read_octet,
  read_ipv4,
  read_segment,
  read_segments,
  read_ipv6,
  read_port,
  read_scope_id,
  read_socket_v4,
  read_socket_v6,
}
use Rattle.rd_base.specs.Peers.{peer_text, named_peer, peer_of}
use Rattle.client_model.specs.Asks.{peer_at, registration_at, registration, located_ask}
use Rattle.client_model.specs.Verdicts.{is_quiet, wait_end, sent_again, verdict}
use Rattle.client_model.specs.Sending.{empty_acknowledgement}

-- Opened by an example, it opens all that a verdict computes with.
unfoldable pub verdicts_on_literals : ⊤
unfolding is_quiet wait_end sent_again verdict empty_acknowledgement
verdicts_on_literals = tt

-- The same of asks.
unfoldable pub asks_on_literals : ⊤
unfolding digits hex hex_groups_text ipv6_text read_number read_octet read_ipv4 read_segment
    read_segments read_ipv6 read_port read_scope_id read_socket_v4 read_socket_v6 peer_text
    named_peer peer_of peer_at registration_at registration located_ask
asks_on_literals = tt
