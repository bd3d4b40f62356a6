-- Traces of lookups and of discovery. Beside each the datagrams are shown: type, code, Message ID,
-- token, options, payload.
use Rattle.std.proofs.Common.{◌≡◌, [], ◌∷◌, codes, refl}
use Rattle.trace_model.specs.Output.{output}
use Rattle.trace_model.proofs.OnLiterals.{output_on_literals}
use Rattle.trace_model.proofs.OutputLines.{lines, writes}

-- a link is looked up, and again with the tag
--     in 0 1000 192.0.2.10:5683: CON 0.02 m=0001 t=a1 [11 rd][12 x28][15 ep=node1][15 lt=600] |
-- </temp>;rt="temperature";ct=0,</light>;rt="light-lux";if="sensor"
--     go 0 1005
--     in 0 1010 192.0.2.30:40000: CON 0.01 m=0002 t=b2 [11 rd-lookup][11 res][15 rt=light-lux]
--     in 0 1010 192.0.2.30:40000: CON 0.01 m=0002 t=b2 [4 x0000000000010000][11 rd-lookup][11
-- res][15 rt=light-lux]
-- gives
--     out 0 192.0.2.10:5683: ACK 2.01 m=0001 t=a1 [8 rd][8 1]
--     out 0 192.0.2.30:40000: ACK 2.05 m=0002 t=b2 [4 x0000000000010000][12 x28] |
-- <coap://192.0.2.10/light>;rt="light-lux";if="sensor"
--     out 0 192.0.2.30:40000: ACK 2.03 m=0002 t=b2 [4 x0000000000010000]
--     end 1 1 0
looked_up : output 1 (lines (
    codes
    "in 0 1000 192.0.2.10:5683 41020001a1b2726411283865703d6e6f646531066c743d363030ff3c2f74656d703e3b72743d2274656d7065726174757265223b63743d302c3c2f6c696768743e3b72743d226c696768742d6c7578223b69663d2273656e736f7222"
    ∷ codes "go 0 1005"
    ∷ codes
    "in 0 1010 192.0.2.30:40000 41010002b2b972642d6c6f6f6b7570037265734c72743d6c696768742d6c7578"
    ∷ codes
    "in 0 1010 192.0.2.30:40000 41010002b24800000000000100007972642d6c6f6f6b7570037265734c72743d6c696768742d6c7578"
    ∷ []))
    ≡ writes (
    codes "out 0 192.0.2.10:5683 61410001a18272640131"
    ∷ codes
    "out 0 192.0.2.30:40000 61450002b24800000000000100008128ff3c636f61703a2f2f3139322e302e322e31302f6c696768743e3b72743d226c696768742d6c7578223b69663d2273656e736f7222"
    ∷ codes "out 0 192.0.2.30:40000 61430002b2480000000000010000"
    ∷ codes "end 1 1 0" ∷ [])
unfolding output_on_literals
looked_up = refl

-- the criterion matches the endpoint by itself, so both its links are listed
--     in 0 1000 192.0.2.10:5683: CON 0.02 m=0001 t=a1 [11 rd][12 x28][15 ep=node1][15 lt=600] |
-- </temp>;rt="temperature";ct=0,</light>;rt="light-lux";if="sensor"
--     go 0 1005
--     in 0 1010 192.0.2.30:40000: CON 0.01 m=0002 t=b2 [11 rd-lookup][11 res][15 ep=node1]
-- gives
--     out 0 192.0.2.10:5683: ACK 2.01 m=0001 t=a1 [8 rd][8 1]
--     out 0 192.0.2.30:40000: ACK 2.05 m=0002 t=b2 [4 x0000000000010000][12 x28] |
-- <coap://192.0.2.10/temp>;rt="temperature";ct=0,<coap://192.0.2.10/light>;rt="light-lux";if="sensor"
--     end 1 1 0
looked_up_by_endpoint : output 1 (lines (
    codes
    "in 0 1000 192.0.2.10:5683 41020001a1b2726411283865703d6e6f646531066c743d363030ff3c2f74656d703e3b72743d2274656d7065726174757265223b63743d302c3c2f6c696768743e3b72743d226c696768742d6c7578223b69663d2273656e736f7222"
    ∷ codes "go 0 1005"
    ∷ codes "in 0 1010 192.0.2.30:40000 41010002b2b972642d6c6f6f6b7570037265734865703d6e6f646531"
    ∷ []))
    ≡ writes (
    codes "out 0 192.0.2.10:5683 61410001a18272640131"
    ∷ codes
    "out 0 192.0.2.30:40000 61450002b24800000000000100008128ff3c636f61703a2f2f3139322e302e322e31302f74656d703e3b72743d2274656d7065726174757265223b63743d302c3c636f61703a2f2f3139322e302e322e31302f6c696768743e3b72743d226c696768742d6c7578223b69663d2273656e736f7222"
    ∷ codes "end 1 1 0" ∷ [])
unfolding output_on_literals
looked_up_by_endpoint = refl

-- a lookup without any registration
--     in 0 1010 192.0.2.30:40000: CON 0.01 m=0002 t=b2 [11 rd-lookup][11 res][15 rt=light-lux]
-- gives
--     out 0 192.0.2.30:40000: ACK 2.05 m=0002 t=b2 [4 x0000000000000000][12 x28]
--     end 0 0 0
looked_up_empty : output 1 (lines (
    codes
    "in 0 1010 192.0.2.30:40000 41010002b2b972642d6c6f6f6b7570037265734c72743d6c696768742d6c7578"
    ∷ []))
    ≡ writes (
    codes "out 0 192.0.2.30:40000 61450002b24800000000000000008128"
    ∷ codes "end 0 0 0" ∷ [])
unfolding output_on_literals
looked_up_empty = refl

-- a pattern that ends with an asterisk, and the parts of a value
--     in 0 1 192.0.2.10:5683: CON 0.02 m=0001 t=a1 [11 rd][15 ep=node1] | </s>;rt="b abc"
--     go 0 1
--     in 0 2 192.0.2.30:40000: CON 0.01 m=0002 [11 rd-lookup][11 res][15 rt=a*][15 ep=node1]
--     in 0 2 192.0.2.30:40000: CON 0.01 m=0002 [11 rd-lookup][11 res][15 rt=b]
--     in 0 2 192.0.2.30:40000: CON 0.01 m=0002 [11 rd-lookup][11 res][15 rt=b abc]
-- gives
--     out 0 192.0.2.10:5683: ACK 2.01 m=0001 t=a1 [8 rd][8 1]
--     out 0 192.0.2.30:40000: ACK 2.05 m=0002 [4 x0000000000010000][12 x28] |
-- <coap://192.0.2.10/s>;rt="b abc"
--     out 0 192.0.2.30:40000: ACK 2.05 m=0002 [4 x0000000000010000][12 x28] |
-- <coap://192.0.2.10/s>;rt="b abc"
--     out 0 192.0.2.30:40000: ACK 2.05 m=0002 [4 x0000000000010000][12 x28]
--     end 1 1 0
wildcards : output 1 (lines (
    codes
    "in 0 1 192.0.2.10:5683 41020001a1b272644865703d6e6f646531ff3c2f733e3b72743d22622061626322"
    ∷ codes "go 0 1"
    ∷ codes
    "in 0 2 192.0.2.30:40000 40010002b972642d6c6f6f6b7570037265734572743d612a0865703d6e6f646531"
    ∷ codes "in 0 2 192.0.2.30:40000 40010002b972642d6c6f6f6b7570037265734472743d62"
    ∷ codes "in 0 2 192.0.2.30:40000 40010002b972642d6c6f6f6b7570037265734872743d6220616263" ∷ []))
    ≡ writes (
    codes "out 0 192.0.2.10:5683 61410001a18272640131"
    ∷ codes
    "out 0 192.0.2.30:40000 604500024800000000000100008128ff3c636f61703a2f2f3139322e302e322e31302f733e3b72743d22622061626322"
    ∷ codes
    "out 0 192.0.2.30:40000 604500024800000000000100008128ff3c636f61703a2f2f3139322e302e322e31302f733e3b72743d22622061626322"
    ∷ codes "out 0 192.0.2.30:40000 604500024800000000000100008128"
    ∷ codes "end 1 1 0" ∷ [])
unfolding output_on_literals
wildcards = refl

-- two criteria that two links meet list the endpoint, and no link
--     in 0 1 192.0.2.10:5683: CON 0.02 m=0001 t=a1 [11 rd][12 x28][15 ep=node1][15 lt=600] |
-- </temp>;rt="temperature";ct=0,</light>;rt="light-lux";if="sensor"
--     go 0 1
--     in 0 2 192.0.2.30:40000: CON 0.01 m=0002 [11 rd-lookup][11 ep][15 rt=temperature][15
-- if=sensor]
--     in 0 2 192.0.2.30:40000: CON 0.01 m=0002 [11 rd-lookup][11 res][15 rt=temperature][15
-- if=sensor]
-- gives
--     out 0 192.0.2.10:5683: ACK 2.01 m=0001 t=a1 [8 rd][8 1]
--     out 0 192.0.2.30:40000: ACK 2.05 m=0002 [4 x0000000000010000][12 x28] |
-- </rd/1>;base="coap://192.0.2.10";ep="node1";rt="core.rd-ep"
--     out 0 192.0.2.30:40000: ACK 2.05 m=0002 [4 x0000000000010000][12 x28]
--     end 1 1 0
criteria_of_two_links : output 1 (lines (
    codes
    "in 0 1 192.0.2.10:5683 41020001a1b2726411283865703d6e6f646531066c743d363030ff3c2f74656d703e3b72743d2274656d7065726174757265223b63743d302c3c2f6c696768743e3b72743d226c696768742d6c7578223b69663d2273656e736f7222"
    ∷ codes "go 0 1"
    ∷ codes
    "in 0 2 192.0.2.30:40000 40010002b972642d6c6f6f6b75700265704d0172743d74656d70657261747572650969663d73656e736f72"
    ∷ codes
    "in 0 2 192.0.2.30:40000 40010002b972642d6c6f6f6b7570037265734d0172743d74656d70657261747572650969663d73656e736f72"
    ∷ []))
    ≡ writes (
    codes "out 0 192.0.2.10:5683 61410001a18272640131"
    ∷ codes
    "out 0 192.0.2.30:40000 604500024800000000000100008128ff3c2f72642f313e3b626173653d22636f61703a2f2f3139322e302e322e3130223b65703d226e6f646531223b72743d22636f72652e72642d657022"
    ∷ codes "out 0 192.0.2.30:40000 604500024800000000000100008128"
    ∷ codes "end 1 1 0" ∷ [])
unfolding output_on_literals
criteria_of_two_links = refl

-- page and count
--     in 0 1 192.0.2.10:5683: CON 0.02 m=0001 t=a1 [11 rd][15 ep=n] | </a>,</b>,</c>
--     go 0 1
--     in 0 2 192.0.2.30:40000: CON 0.01 m=0002 [11 rd-lookup][11 res][15 count=2][15 page=1]
--     in 0 2 192.0.2.30:40000: CON 0.01 m=0002 [11 rd-lookup][11 res][15 page=1]
--     in 0 2 192.0.2.30:40000: CON 0.01 m=0002 [11 rd-lookup][11 res][15 count=0]
-- gives
--     out 0 192.0.2.10:5683: ACK 2.01 m=0001 t=a1 [8 rd][8 1]
--     out 0 192.0.2.30:40000: ACK 2.05 m=0002 [4 x0000000000010000][12 x28] | <coap://192.0.2.10/c>
--     out 0 192.0.2.30:40000: ACK 4.00 m=0002 | query
--     out 0 192.0.2.30:40000: ACK 2.05 m=0002 [4 x0000000000010000][12 x28]
--     end 1 1 0
pages : output 1 (lines (
    codes "in 0 1 192.0.2.10:5683 41020001a1b272644465703d6eff3c2f613e2c3c2f623e2c3c2f633e"
    ∷ codes "go 0 1"
    ∷ codes
    "in 0 2 192.0.2.30:40000 40010002b972642d6c6f6f6b75700372657347636f756e743d3206706167653d31"
    ∷ codes "in 0 2 192.0.2.30:40000 40010002b972642d6c6f6f6b75700372657346706167653d31"
    ∷ codes "in 0 2 192.0.2.30:40000 40010002b972642d6c6f6f6b75700372657347636f756e743d30" ∷ []))
    ≡ writes (
    codes "out 0 192.0.2.10:5683 61410001a18272640131"
    ∷ codes
    "out 0 192.0.2.30:40000 604500024800000000000100008128ff3c636f61703a2f2f3139322e302e322e31302f633e"
    ∷ codes "out 0 192.0.2.30:40000 60800002ff7175657279"
    ∷ codes "out 0 192.0.2.30:40000 604500024800000000000100008128"
    ∷ codes "end 1 1 0" ∷ [])
unfolding output_on_literals
pages = refl

-- references against a base, and a body outside of the Limited Link Format
--     in 0 1 192.0.2.10:5683: CON 0.02 m=0001 t=a1 [11 rd][15 ep=n][15 base=coap://h/c/d] |
-- </a/../b>,<x>;anchor="",<http://e.org/./z>,<//k/y>
--     go 0 1
--     in 0 2 192.0.2.30:40000: CON 0.01 m=0002 [11 rd-lookup][11 res][15 ep=n]
--     in 0 3 192.0.2.10:5683: CON 0.02 m=0003 [11 rd][15 ep=n] | <t>;anchor="coap://e/"
--     go 0 3
--     in 0 3 192.0.2.10:5683: CON 0.02 m=0004 [11 rd][15 ep=n] | <t>;
--     go 0 3
-- gives
--     out 0 192.0.2.10:5683: ACK 2.01 m=0001 t=a1 [8 rd][8 1]
--     out 0 192.0.2.30:40000: ACK 2.05 m=0002 [4 x0000000000010000][12 x28] |
-- <coap://h/b>,<coap://h/c/x>;anchor="coap://h/c/d",<http://e.org/./z>,<coap://k/y>
--     out 0 192.0.2.10:5683: ACK 4.00 m=0003 | limited
--     out 0 192.0.2.10:5683: ACK 4.00 m=0004 | links
--     end 1 1 0
references : output 1 (lines (
    codes
    "in 0 1 192.0.2.10:5683 41020001a1b272644465703d6e0d04626173653d636f61703a2f2f682f632f64ff3c2f612f2e2e2f623e2c3c783e3b616e63686f723d22222c3c687474703a2f2f652e6f72672f2e2f7a3e2c3c2f2f6b2f793e"
    ∷ codes "go 0 1"
    ∷ codes "in 0 2 192.0.2.30:40000 40010002b972642d6c6f6f6b7570037265734465703d6e"
    ∷ codes
    "in 0 3 192.0.2.10:5683 40020003b272644465703d6eff3c743e3b616e63686f723d22636f61703a2f2f652f22"
    ∷ codes "go 0 3"
    ∷ codes "in 0 3 192.0.2.10:5683 40020004b272644465703d6eff3c743e3b"
    ∷ codes "go 0 3" ∷ []))
    ≡ writes (
    codes "out 0 192.0.2.10:5683 61410001a18272640131"
    ∷ codes
    "out 0 192.0.2.30:40000 604500024800000000000100008128ff3c636f61703a2f2f682f623e2c3c636f61703a2f2f682f632f783e3b616e63686f723d22636f61703a2f2f682f632f64222c3c687474703a2f2f652e6f72672f2e2f7a3e2c3c636f61703a2f2f6b2f793e"
    ∷ codes "out 0 192.0.2.10:5683 60800003ff6c696d69746564"
    ∷ codes "out 0 192.0.2.10:5683 60800004ff6c696e6b73"
    ∷ codes "end 1 1 0" ∷ [])
unfolding output_on_literals
references = refl

-- an empty anchor is the base
--     in 0 1 192.0.2.10:5683: CON 0.02 m=0001 t=a1 [11 rd][15 ep=n] | </a/../b>,<x>;anchor=""
--     go 0 1
--     in 0 2 192.0.2.30:40000: CON 0.01 m=0002 [11 rd-lookup][11 res][15 ep=n]
-- gives
--     out 0 192.0.2.10:5683: ACK 2.01 m=0001 t=a1 [8 rd][8 1]
--     out 0 192.0.2.30:40000: ACK 2.05 m=0002 [4 x0000000000010000][12 x28] |
-- <coap://192.0.2.10/b>,<coap://192.0.2.10/x>;anchor="coap://192.0.2.10"
--     end 1 1 0
empty_anchor : output 1 (lines (
    codes
    "in 0 1 192.0.2.10:5683 41020001a1b272644465703d6eff3c2f612f2e2e2f623e2c3c783e3b616e63686f723d2222"
    ∷ codes "go 0 1"
    ∷ codes "in 0 2 192.0.2.30:40000 40010002b972642d6c6f6f6b7570037265734465703d6e" ∷ []))
    ≡ writes (
    codes "out 0 192.0.2.10:5683 61410001a18272640131"
    ∷ codes
    "out 0 192.0.2.30:40000 604500024800000000000100008128ff3c636f61703a2f2f3139322e302e322e31302f623e2c3c636f61703a2f2f3139322e302e322e31302f783e3b616e63686f723d22636f61703a2f2f3139322e302e322e313022"
    ∷ codes "end 1 1 0" ∷ [])
unfolding output_on_literals
empty_anchor = refl

-- a location as href, and any anchor
--     in 0 1 192.0.2.10:5683: CON 0.02 m=0001 t=a1 [11 rd][12 x28][15 ep=node1][15 lt=600] |
-- </temp>;rt="temperature";ct=0,</light>;rt="light-lux";if="sensor"
--     go 0 1
--     in 0 2 192.0.2.30:40000: CON 0.01 m=0002 [11 rd-lookup][11 res][15 href=/rd/1]
--     in 0 2 192.0.2.30:40000: CON 0.01 m=0002 [11 rd-lookup][11 res][15 anchor=*]
-- gives
--     out 0 192.0.2.10:5683: ACK 2.01 m=0001 t=a1 [8 rd][8 1]
--     out 0 192.0.2.30:40000: ACK 2.05 m=0002 [4 x0000000000010000][12 x28] |
-- <coap://192.0.2.10/temp>;rt="temperature";ct=0,<coap://192.0.2.10/light>;rt="light-lux";if="sensor"
--     out 0 192.0.2.30:40000: ACK 2.05 m=0002 [4 x0000000000010000][12 x28]
--     end 1 1 0
location_as_criterion : output 1 (lines (
    codes
    "in 0 1 192.0.2.10:5683 41020001a1b2726411283865703d6e6f646531066c743d363030ff3c2f74656d703e3b72743d2274656d7065726174757265223b63743d302c3c2f6c696768743e3b72743d226c696768742d6c7578223b69663d2273656e736f7222"
    ∷ codes "go 0 1"
    ∷ codes "in 0 2 192.0.2.30:40000 40010002b972642d6c6f6f6b7570037265734a687265663d2f72642f31"
    ∷ codes "in 0 2 192.0.2.30:40000 40010002b972642d6c6f6f6b75700372657348616e63686f723d2a" ∷ []))
    ≡ writes (
    codes "out 0 192.0.2.10:5683 61410001a18272640131"
    ∷ codes
    "out 0 192.0.2.30:40000 604500024800000000000100008128ff3c636f61703a2f2f3139322e302e322e31302f74656d703e3b72743d2274656d7065726174757265223b63743d302c3c636f61703a2f2f3139322e302e322e31302f6c696768743e3b72743d226c696768742d6c7578223b69663d2273656e736f7222"
    ∷ codes "out 0 192.0.2.30:40000 604500024800000000000100008128"
    ∷ codes "end 1 1 0" ∷ [])
unfolding output_on_literals
location_as_criterion = refl

-- discovery
--     in 0 1 192.0.2.10:5683: CON 0.01 m=0001 [11 .well-known][11 core][15 rt=core.rd*]
--     in 0 1 192.0.2.10:5683: CON 0.01 m=0001 [11 .well-known][11 core][15 rt=core.rd]
--     in 0 1 192.0.2.10:5683: CON 0.01 m=0001 [11 .well-known][11 core][15 obs]
-- gives
--     out 0 192.0.2.10:5683: ACK 2.05 m=0001 [12 x28] |
-- </rd>;rt="core.rd";ct=40,</rd-lookup/ep>;rt="core.rd-lookup-ep";ct=40;obs,</rd-lookup/res>;rt="core.rd-lookup-res";ct=40;obs
--     out 0 192.0.2.10:5683: ACK 2.05 m=0001 [12 x28] | </rd>;rt="core.rd";ct=40
--     out 0 192.0.2.10:5683: ACK 2.05 m=0001 [12 x28] |
-- </rd-lookup/ep>;rt="core.rd-lookup-ep";ct=40;obs,</rd-lookup/res>;rt="core.rd-lookup-res";ct=40;obs
--     end 0 0 0
discovers : output 1 (lines (
    codes
    "in 0 1 192.0.2.10:5683 40010001bb2e77656c6c2d6b6e6f776e04636f72654b72743d636f72652e72642a"
    ∷ codes
    "in 0 1 192.0.2.10:5683 40010001bb2e77656c6c2d6b6e6f776e04636f72654a72743d636f72652e7264"
    ∷ codes "in 0 1 192.0.2.10:5683 40010001bb2e77656c6c2d6b6e6f776e04636f7265436f6273" ∷ []))
    ≡ writes (
    codes
    "out 0 192.0.2.10:5683 60450001c128ff3c2f72643e3b72743d22636f72652e7264223b63743d34302c3c2f72642d6c6f6f6b75702f65703e3b72743d22636f72652e72642d6c6f6f6b75702d6570223b63743d34303b6f62732c3c2f72642d6c6f6f6b75702f7265733e3b72743d22636f72652e72642d6c6f6f6b75702d726573223b63743d34303b6f6273"
    ∷ codes "out 0 192.0.2.10:5683 60450001c128ff3c2f72643e3b72743d22636f72652e7264223b63743d3430"
    ∷ codes
    "out 0 192.0.2.10:5683 60450001c128ff3c2f72642d6c6f6f6b75702f65703e3b72743d22636f72652e72642d6c6f6f6b75702d6570223b63743d34303b6f62732c3c2f72642d6c6f6f6b75702f7265733e3b72743d22636f72652e72642d6c6f6f6b75702d726573223b63743d34303b6f6273"
    ∷ codes "end 0 0 0" ∷ [])
unfolding output_on_literals
discovers = refl
