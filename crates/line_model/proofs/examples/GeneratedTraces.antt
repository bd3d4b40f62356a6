-- Generated traces, computed.
use Rattle.std.proofs.Common.{◌≡◌, ℕ, List, [], ◌∷◌, ◌++◌, flat_map, codes, length, refl}
use Rattle.message_model.proofs.OnLiterals.{messages_on_literals}
use Rattle.line_model.specs.Texts.{line_feed}
use Rattle.line_model.specs.Generator.{device_lines, text_of, generated_lines, generated}
use Rattle.line_model.proofs.OnLiterals.{trace_on_literals}

-- lines, each with its line feed
abbrev lines : List (List ℕ) → List ℕ
lines texts = flat_map (λ text. text ++ line_feed ∷ []) texts

-- one device
--     CON 0.02 m=0001 t=01 [11 rd][15 ep=dev1][15 lt=671] | </t>;rt="temp",</s1>;rt="kind1"
one_device : generated 1 1 ≡ lines (
    codes
    "in 0 200 10.0.0.1:5683 4102000101b272644765703d64657631066c743d363731ff3c2f743e3b72743d2274656d70222c3c2f73313e3b72743d226b696e643122"
    ∷ codes "go 0 201"
    ∷ codes "tick 0 210" ∷ [])
unfolding messages_on_literals trace_on_literals
one_device = refl

-- ten devices and two workers: an observer comes with the tenth
--     CON 0.01 m=4e2a t=000a [6 x][11 rd-lookup][11 res][15 rt=kind3]
ten_devices : generated 10 2 ≡ lines (
    codes
    "in 1 200 10.0.0.1:5683 4102000101b272644765703d64657631066c743d363731ff3c2f743e3b72743d2274656d70222c3c2f73313e3b72743d226b696e643122"
    ∷ codes "go 1 201"
    ∷ codes
    "in 0 400 10.0.0.2:5683 4102000202b272644765703d64657632076c743d31323832ff3c2f743e3b72743d2274656d70222c3c2f73323e3b72743d226b696e643222"
    ∷ codes "go 0 401"
    ∷ codes
    "in 1 600 10.0.0.3:5683 4102000303b272644765703d64657633076c743d31383933ff3c2f743e3b72743d2274656d70222c3c2f73333e3b72743d226b696e643322"
    ∷ codes "go 1 601"
    ∷ codes
    "in 0 800 10.0.0.4:5683 4102000404b272644765703d64657634076c743d32353034ff3c2f743e3b72743d2274656d70222c3c2f73343e3b72743d226b696e643422"
    ∷ codes "go 0 801"
    ∷ codes
    "in 1 1000 10.0.0.5:5683 4102000505b272644765703d64657635076c743d33313135ff3c2f743e3b72743d2274656d70222c3c2f73353e3b72743d226b696e643522"
    ∷ codes "go 1 1001"
    ∷ codes
    "in 0 1200 10.0.0.6:5683 4102000606b272644765703d64657636066c743d313236ff3c2f743e3b72743d2274656d70222c3c2f73363e3b72743d226b696e643622"
    ∷ codes "go 0 1201"
    ∷ codes
    "in 1 1400 10.0.0.7:5683 4102000707b272644765703d64657637066c743d373337ff3c2f743e3b72743d2274656d70222c3c2f73373e3b72743d226b696e643022"
    ∷ codes "go 1 1401"
    ∷ codes
    "in 0 1600 10.0.0.8:5683 4102000808b272644765703d64657638076c743d31333438ff3c2f743e3b72743d2274656d70222c3c2f73383e3b72743d226b696e643122"
    ∷ codes "go 0 1601"
    ∷ codes
    "in 1 1800 10.0.0.9:5683 4102000909b272644765703d64657639076c743d31393539ff3c2f743e3b72743d2274656d70222c3c2f73393e3b72743d226b696e643222"
    ∷ codes "go 1 1801"
    ∷ codes
    "in 0 2000 10.0.0.10:5683 4102000a0ab272644865703d6465763130076c743d32353730ff3c2f743e3b72743d2274656d70222c3c2f73303e3b72743d226b696e643322"
    ∷ codes "go 0 2001"
    ∷ codes "in 0 2002 10.1.0.1:40000 42014e2a000a605972642d6c6f6f6b7570037265734872743d6b696e6433"
    ∷ codes "tick 0 2010" ∷ [])
unfolding messages_on_literals trace_on_literals
ten_devices = refl

-- the hundredth device of three workers: an observer comes, and time passes
hundredth : text_of (device_lines 3 100) ≡ lines (
    codes
    "in 1 20000 10.0.0.100:5683 4102006464b272644965703d646576313030076c743d33353630ff3c2f743e3b72743d2274656d70222c3c2f73303e3b72743d226b696e643222"
    ∷ codes "go 1 20001"
    ∷ codes "in 1 20002 10.1.0.1:40000 42014e840064605972642d6c6f6f6b7570037265734872743d6b696e6432"
    ∷ codes "tick 1 20003 100" ∷ [])
unfolding messages_on_literals trace_on_literals
hundredth = refl

-- a device past the first 256 has a second octet of its own, and its Message ID too
past_an_octet : text_of (device_lines 1 257) ≡ lines (
    codes
    "in 0 51400 10.0.1.1:5683 4102010101b272644965703d646576323537076c743d32323837ff3c2f743e3b72743d2274656d70222c3c2f73373e3b72743d226b696e643522"
    ∷ codes "go 0 51401" ∷ [])
unfolding messages_on_literals trace_on_literals
past_an_octet = refl

-- how many lines there are: two a device, one more each tenth and each hundredth, and the last
one_device_has : length (generated_lines 1 1) ≡ 3
unfolding trace_on_literals
one_device_has = refl

hundred_have : length (generated_lines 100 4) ≡ 212
unfolding trace_on_literals
hundred_have = refl
