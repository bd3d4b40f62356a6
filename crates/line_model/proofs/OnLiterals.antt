-- What a proof opens to compute this crate's definitions on texts that are written out.
use Rattle.std.specs.Prelude.{⊤}
use Rattle.std.specs.Fmt.{digits}
use Rattle.std.specs.Net.Text.{hex, hex_groups_text, ipv6_text}
use Rattle.std.specs.Net.Reader.{
  read_number,
  read_octet,
  read_ipv4,
  read_segment,
  read_segments,
  read_ipv6,
  read_port,
  read_scope_id,
  read_socket_v4,
  read_socket_v6,
}
use Rattle.hex.specs.Hex.{encode_with, decode_pairs}
use Rattle.line_model.specs.Numbers.{number_of}
use Rattle.rd_base.specs.Peers.{peer_text, named_peer, peer_of}
use Rattle.line_model.specs.Datagrams.{datagram_of}
use Rattle.line_model.specs.Lines.{
  come_of,
  go_of,
  tick_of,
  begin_of,
  said_by,
  line_of,
  line_text,
  out_text,
}
use Rattle.line_model.specs.Texts.{lines_of}
use Rattle.line_model.specs.Generator.{generated_lines, generated}

-- every word that is open
unfoldable pub trace_on_literals : ⊤
unfolding digits hex hex_groups_text ipv6_text read_number read_octet read_ipv4 read_segment
    read_segments read_ipv6 read_port read_scope_id read_socket_v4 read_socket_v6 encode_with
    decode_pairs number_of peer_text named_peer peer_of datagram_of come_of go_of tick_of begin_of
    said_by line_of line_text out_text lines_of generated_lines generated
trace_on_literals = tt
