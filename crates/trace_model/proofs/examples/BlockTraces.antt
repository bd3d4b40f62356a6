-- Traces of bodies in blocks. Beside each the datagrams are shown: type, code, Message ID, token,
-- options, payload.
use Rattle.std.proofs.Common.{◌≡◌, [], ◌∷◌, ◌++◌, codes, refl}
use Rattle.trace_model.specs.Output.{output}
use Rattle.trace_model.proofs.OnLiterals.{output_on_literals}
use Rattle.trace_model.proofs.OutputLines.{lines, writes, many}

-- the second block of a listing comes from the state of the first
--     in 0 1000 192.0.2.10:5683: CON 0.02 m=0001 t=a1 [11 rd][15 ep=n][15 base=coap://h] |
-- </x{2039}>
--     go 0 1000
--     in 0 1001 192.0.2.30:40000: CON 0.01 m=0010 t=c1 [11 rd-lookup][11 res][15 ep=n]
--     go 0 1002
--     in 0 1003 192.0.2.10:5683: CON 0.04 m=0002 t=a2 [11 rd][11 1]
--     go 0 1003
--     in 0 1004 192.0.2.30:40000: CON 0.01 m=0010 t=c1 [11 rd-lookup][11 res][15 ep=n][23 x26]
--     in 0 1005 192.0.2.30:40000: CON 0.01 m=0010 t=c1 [11 rd-lookup][11 res][15 ep=n][23 x36]
--     in 0 1006 192.0.2.30:40000: CON 0.01 m=0010 t=c1 [11 rd-lookup][11 res][15 ep=n]
-- gives
--     out 0 192.0.2.10:5683: ACK 2.01 m=0001 t=a1 [8 rd][8 1]
--     out 0 192.0.2.30:40000: ACK 2.05 m=0010 t=c1 [4 x0000000000010000][12 x28][23 x0e] |
-- <coap://h/x{1014}
--     out 0 192.0.2.10:5683: ACK 2.02 m=0002 t=a2
--     out 0 192.0.2.30:40000: ACK 2.05 m=0010 t=c1 [4 x0000000000010000][12 x28][23 x26] | x>
--     out 0 192.0.2.30:40000: ACK 4.00 m=0010 t=c1 | block
--     out 0 192.0.2.30:40000: ACK 2.05 m=0010 t=c1 [4 x0000000000020000][12 x28]
--     end 2 0 0
blocks_of_one_state : output 1 (lines (
    (codes
    "in 0 1000 192.0.2.10:5683 41020001a1b272644465703d6e0d00626173653d636f61703a2f2f68ff3c2f"
    ++ (many 2039 (codes "78") ++ codes "3e"))
    ∷ codes "go 0 1000"
    ∷ codes "in 0 1001 192.0.2.30:40000 41010010c1b972642d6c6f6f6b7570037265734465703d6e"
    ∷ codes "go 0 1002"
    ∷ codes "in 0 1003 192.0.2.10:5683 41040002a2b272640131"
    ∷ codes "go 0 1003"
    ∷ codes "in 0 1004 192.0.2.30:40000 41010010c1b972642d6c6f6f6b7570037265734465703d6e8126"
    ∷ codes "in 0 1005 192.0.2.30:40000 41010010c1b972642d6c6f6f6b7570037265734465703d6e8136"
    ∷ codes "in 0 1006 192.0.2.30:40000 41010010c1b972642d6c6f6f6b7570037265734465703d6e" ∷ []))
    ≡ writes (
    codes "out 0 192.0.2.10:5683 61410001a18272640131"
    ∷ (codes "out 0 192.0.2.30:40000 61450010c14800000000000100008128b10eff3c636f61703a2f2f682f"
    ++ many 1014 (codes "78"))
    ∷ codes "out 0 192.0.2.10:5683 61420002a2"
    ∷ codes "out 0 192.0.2.30:40000 61450010c14800000000000100008128b126ff783e"
    ∷ codes "out 0 192.0.2.30:40000 61800010c1ff626c6f636b"
    ∷ codes "out 0 192.0.2.30:40000 61450010c14800000000000200008128"
    ∷ codes "end 2 0 0" ∷ [])
unfolding output_on_literals
blocks_of_one_state = refl

-- a further block for a peer that has no kept answer
--     in 0 1000 192.0.2.10:5683: CON 0.02 m=0001 t=a1 [11 rd][15 ep=n][15 base=coap://h] |
-- </x{2039}>
--     go 0 1000
--     in 0 1001 192.0.2.30:40000: CON 0.01 m=0010 t=c1 [11 rd-lookup][11 res][15 ep=n]
--     go 0 1002
--     in 0 1003 192.0.2.20:61616: CON 0.01 m=0010 t=c1 [11 rd-lookup][11 res][15 ep=n][23 x26]
--     in 0 1004 192.0.2.10:5683: CON 0.04 m=0002 t=a2 [11 rd][11 1]
--     go 0 1004
--     in 0 1005 192.0.2.20:61616: CON 0.01 m=0010 t=c1 [11 rd-lookup][11 res][15 ep=n][23 x26]
-- gives
--     out 0 192.0.2.10:5683: ACK 2.01 m=0001 t=a1 [8 rd][8 1]
--     out 0 192.0.2.30:40000: ACK 2.05 m=0010 t=c1 [4 x0000000000010000][12 x28][23 x0e] |
-- <coap://h/x{1014}
--     out 0 192.0.2.20:61616: ACK 2.05 m=0010 t=c1 [4 x0000000000010000][12 x28][23 x26] | x>
--     out 0 192.0.2.10:5683: ACK 2.02 m=0002 t=a2
--     out 0 192.0.2.20:61616: ACK 2.05 m=0010 t=c1 [4 x0000000000010000][12 x28][23 x26] | x>
--     end 2 0 0
block_for_another_peer : output 1 (lines (
    (codes
    "in 0 1000 192.0.2.10:5683 41020001a1b272644465703d6e0d00626173653d636f61703a2f2f68ff3c2f"
    ++ (many 2039 (codes "78") ++ codes "3e"))
    ∷ codes "go 0 1000"
    ∷ codes "in 0 1001 192.0.2.30:40000 41010010c1b972642d6c6f6f6b7570037265734465703d6e"
    ∷ codes "go 0 1002"
    ∷ codes "in 0 1003 192.0.2.20:61616 41010010c1b972642d6c6f6f6b7570037265734465703d6e8126"
    ∷ codes "in 0 1004 192.0.2.10:5683 41040002a2b272640131"
    ∷ codes "go 0 1004"
    ∷ codes "in 0 1005 192.0.2.20:61616 41010010c1b972642d6c6f6f6b7570037265734465703d6e8126" ∷ []))
    ≡ writes (
    codes "out 0 192.0.2.10:5683 61410001a18272640131"
    ∷ (codes "out 0 192.0.2.30:40000 61450010c14800000000000100008128b10eff3c636f61703a2f2f682f"
    ++ many 1014 (codes "78"))
    ∷ codes "out 0 192.0.2.20:61616 61450010c14800000000000100008128b126ff783e"
    ∷ codes "out 0 192.0.2.10:5683 61420002a2"
    ∷ codes "out 0 192.0.2.20:61616 61450010c14800000000000100008128b126ff783e"
    ∷ codes "end 2 0 0" ∷ [])
unfolding output_on_literals
block_for_another_peer = refl

-- a body in three blocks, one of them out of order and one repeated; and a body that grows too long
--     in 0 1 192.0.2.10:5683: CON 0.02 m=0001 [11 rd][15 ep=n][27 x08] | </a>;rt="0123456
--     go 0 1
--     in 0 2 192.0.2.10:5683: CON 0.02 m=0002 [11 rd][15 ep=n][27 x20] | "
--     go 0 2
--     in 0 3 192.0.2.10:5683: CON 0.02 m=0003 [11 rd][15 ep=n][27 x18] | 789abcdefghijklm
--     go 0 3
--     in 0 4 192.0.2.10:5683: CON 0.02 m=0003 [11 rd][15 ep=n][27 x18] | 789abcdefghijklm
--     in 0 5 192.0.2.10:5683: CON 0.02 m=0004 [11 rd][15 ep=n][27 x20] | "
--     go 0 5
--     in 0 6 192.0.2.10:5683: CON 0.02 m=0010 [11 rd][15 ep=m][27 x0e] | y{1024}
--     go 0 6
--     in 0 6 192.0.2.10:5683: CON 0.02 m=0011 [11 rd][15 ep=m][27 x1e] | y{1024}
--     go 0 6
--     in 0 6 192.0.2.10:5683: CON 0.02 m=0012 [11 rd][15 ep=m][27 x2e] | y{1024}
--     go 0 6
--     in 0 6 192.0.2.10:5683: CON 0.02 m=0013 [11 rd][15 ep=m][27 x3e] | y{1024}
--     go 0 6
--     in 0 6 192.0.2.10:5683: CON 0.02 m=0014 [11 rd][15 ep=m][27 x4e] | y{1024}
--     go 0 6
--     in 0 6 192.0.2.10:5683: CON 0.02 m=0015 [11 rd][15 ep=m][27 x5e] | y{1024}
--     go 0 6
--     in 0 6 192.0.2.10:5683: CON 0.02 m=0016 [11 rd][15 ep=m][27 x6e] | y{1024}
--     go 0 6
--     in 0 6 192.0.2.10:5683: CON 0.02 m=0017 [11 rd][15 ep=m][27 x7e] | y{1024}
--     go 0 6
--     in 0 7 192.0.2.10:5683: CON 0.02 m=0020 [11 rd][15 ep=m][27 x86] | y
--     go 0 7
-- gives
--     out 0 192.0.2.10:5683: ACK 2.31 m=0001 [27 x08]
--     out 0 192.0.2.10:5683: ACK 4.08 m=0002 | order
--     out 0 192.0.2.10:5683: ACK 2.31 m=0003 [27 x18]
--     out 0 192.0.2.10:5683: ACK 2.31 m=0003 [27 x18]
--     out 0 192.0.2.10:5683: ACK 2.01 m=0004 [8 rd][8 1][27 x20]
--     out 0 192.0.2.10:5683: ACK 2.31 m=0010 [27 x0e]
--     out 0 192.0.2.10:5683: ACK 2.31 m=0011 [27 x1e]
--     out 0 192.0.2.10:5683: ACK 2.31 m=0012 [27 x2e]
--     out 0 192.0.2.10:5683: ACK 2.31 m=0013 [27 x3e]
--     out 0 192.0.2.10:5683: ACK 2.31 m=0014 [27 x4e]
--     out 0 192.0.2.10:5683: ACK 2.31 m=0015 [27 x5e]
--     out 0 192.0.2.10:5683: ACK 2.31 m=0016 [27 x6e]
--     out 0 192.0.2.10:5683: ACK 2.31 m=0017 [27 x7e]
--     out 0 192.0.2.10:5683: ACK 4.13 m=0020 | size
--     end 1 1 0
uploaded : output 1 (lines (
    codes "in 0 1 192.0.2.10:5683 40020001b272644465703d6ec108ff3c2f613e3b72743d2230313233343536"
    ∷ codes "go 0 1"
    ∷ codes "in 0 2 192.0.2.10:5683 40020002b272644465703d6ec120ff22"
    ∷ codes "go 0 2"
    ∷ codes "in 0 3 192.0.2.10:5683 40020003b272644465703d6ec118ff3738396162636465666768696a6b6c6d"
    ∷ codes "go 0 3"
    ∷ codes "in 0 4 192.0.2.10:5683 40020003b272644465703d6ec118ff3738396162636465666768696a6b6c6d"
    ∷ codes "in 0 5 192.0.2.10:5683 40020004b272644465703d6ec120ff22"
    ∷ codes "go 0 5"
    ∷ (codes "in 0 6 192.0.2.10:5683 40020010b272644465703d6dc10eff" ++ many 1024 (codes "79"))
    ∷ codes "go 0 6"
    ∷ (codes "in 0 6 192.0.2.10:5683 40020011b272644465703d6dc11eff" ++ many 1024 (codes "79"))
    ∷ codes "go 0 6"
    ∷ (codes "in 0 6 192.0.2.10:5683 40020012b272644465703d6dc12eff" ++ many 1024 (codes "79"))
    ∷ codes "go 0 6"
    ∷ (codes "in 0 6 192.0.2.10:5683 40020013b272644465703d6dc13eff" ++ many 1024 (codes "79"))
    ∷ codes "go 0 6"
    ∷ (codes "in 0 6 192.0.2.10:5683 40020014b272644465703d6dc14eff" ++ many 1024 (codes "79"))
    ∷ codes "go 0 6"
    ∷ (codes "in 0 6 192.0.2.10:5683 40020015b272644465703d6dc15eff" ++ many 1024 (codes "79"))
    ∷ codes "go 0 6"
    ∷ (codes "in 0 6 192.0.2.10:5683 40020016b272644465703d6dc16eff" ++ many 1024 (codes "79"))
    ∷ codes "go 0 6"
    ∷ (codes "in 0 6 192.0.2.10:5683 40020017b272644465703d6dc17eff" ++ many 1024 (codes "79"))
    ∷ codes "go 0 6"
    ∷ codes "in 0 7 192.0.2.10:5683 40020020b272644465703d6dc186ff79"
    ∷ codes "go 0 7" ∷ []))
    ≡ writes (
    codes "out 0 192.0.2.10:5683 605f0001d10e08"
    ∷ codes "out 0 192.0.2.10:5683 60880002ff6f72646572"
    ∷ codes "out 0 192.0.2.10:5683 605f0003d10e18"
    ∷ codes "out 0 192.0.2.10:5683 605f0003d10e18"
    ∷ codes "out 0 192.0.2.10:5683 604100048272640131d10620"
    ∷ codes "out 0 192.0.2.10:5683 605f0010d10e0e"
    ∷ codes "out 0 192.0.2.10:5683 605f0011d10e1e"
    ∷ codes "out 0 192.0.2.10:5683 605f0012d10e2e"
    ∷ codes "out 0 192.0.2.10:5683 605f0013d10e3e"
    ∷ codes "out 0 192.0.2.10:5683 605f0014d10e4e"
    ∷ codes "out 0 192.0.2.10:5683 605f0015d10e5e"
    ∷ codes "out 0 192.0.2.10:5683 605f0016d10e6e"
    ∷ codes "out 0 192.0.2.10:5683 605f0017d10e7e"
    ∷ codes "out 0 192.0.2.10:5683 608d0020ff73697a65"
    ∷ codes "end 1 1 0" ∷ [])
unfolding output_on_literals
uploaded = refl

-- 2.03 is given at once, also where the listing is long
--     in 0 1000 192.0.2.10:5683: CON 0.02 m=0001 t=a1 [11 rd][15 ep=n][15 base=coap://h] |
-- </x{2039}>
--     go 0 1000
--     in 0 1001 192.0.2.30:40000: CON 0.01 m=0010 t=c1 [11 rd-lookup][11 res][15 ep=n]
--     go 0 1002
--     in 0 1003 192.0.2.30:40000: CON 0.01 m=0010 t=c1 [4 x0000000000010000][11 rd-lookup][11
-- res][15 ep=n]
-- gives
--     out 0 192.0.2.10:5683: ACK 2.01 m=0001 t=a1 [8 rd][8 1]
--     out 0 192.0.2.30:40000: ACK 2.05 m=0010 t=c1 [4 x0000000000010000][12 x28][23 x0e] |
-- <coap://h/x{1014}
--     out 0 192.0.2.30:40000: ACK 2.03 m=0010 t=c1 [4 x0000000000010000]
--     end 1 1 0
valid_though_long : output 1 (lines (
    (codes
    "in 0 1000 192.0.2.10:5683 41020001a1b272644465703d6e0d00626173653d636f61703a2f2f68ff3c2f"
    ++ (many 2039 (codes "78") ++ codes "3e"))
    ∷ codes "go 0 1000"
    ∷ codes "in 0 1001 192.0.2.30:40000 41010010c1b972642d6c6f6f6b7570037265734465703d6e"
    ∷ codes "go 0 1002"
    ∷ codes
    "in 0 1003 192.0.2.30:40000 41010010c14800000000000100007972642d6c6f6f6b7570037265734465703d6e"
    ∷ []))
    ≡ writes (
    codes "out 0 192.0.2.10:5683 61410001a18272640131"
    ∷ (codes "out 0 192.0.2.30:40000 61450010c14800000000000100008128b10eff3c636f61703a2f2f682f"
    ++ many 1014 (codes "78"))
    ∷ codes "out 0 192.0.2.30:40000 61430010c1480000000000010000"
    ∷ codes "end 1 1 0" ∷ [])
unfolding output_on_literals
valid_though_long = refl
