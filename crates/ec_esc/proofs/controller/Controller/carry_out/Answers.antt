use Rattle.std.proofs.Common.{length, ap}
use Rattle.std.proofs.lemmas.Bool.{false≢true}
use Rattle.ec_wire.specs.Datagram.{DatagramRecord, nth}
use Rattle.ec_wire.specs.declared.command.Command.{Command}
use Rattle.ec_esc.specs.Pass.{effect}
use Rattle.ec_esc.proofs.PassLemmas.{effect_read, effect_write, effect_exchange, IsServed-as, addresses_somebody}
use Rattle.ec_esc.proofs.controller.Controller.carry_out.Goals as goal

pub returns-in-Aprd : goal.returns-in-Aprd
returns-in-Aprd c =
    let s = c.args.self.now in
    let d : DatagramRecord = nth c.args.frame.now c.args.k in
    IsServed-as _ _ c.args.k c.args.frame.now s c.range_read.new.frame c.range_read.new.self
    (effect_read c.args.command s d.address (length d.payload) c.in-Aprd.is c.requires.addressed) c.range_read.ensures

pub returns-in-Apwr : goal.returns-in-Apwr
returns-in-Apwr c =
    let s = c.args.self.now in
    let d : DatagramRecord = nth c.args.frame.now c.args.k in
    IsServed-as _ _ c.args.k c.args.frame.now s c.range_write.new.frame c.range_write.new.self
    (effect_write c.args.command s d.address (length d.payload) c.in-Apwr.is c.requires.addressed) c.range_write.ensures

pub returns-in-Aprw : goal.returns-in-Aprw
returns-in-Aprw c =
    let s = c.args.self.now in
    let d : DatagramRecord = nth c.args.frame.now c.args.k in
    IsServed-as _ _ c.args.k c.args.frame.now s c.range_exchange.new.frame c.range_exchange.new.self
    (effect_exchange c.args.command s d.address (length d.payload) c.in-Aprw.is c.requires.addressed) c.range_exchange.ensures

pub returns-in-Brd : goal.returns-in-Brd
returns-in-Brd c =
    let s = c.args.self.now in
    let d : DatagramRecord = nth c.args.frame.now c.args.k in
    IsServed-as _ _ c.args.k c.args.frame.now s c.broadcast_read.new.frame c.broadcast_read.new.self
    (ap (λ (x : Command). effect x s d.address (length d.payload)) c.in-Brd.is) c.broadcast_read.ensures

pub returns-in-Lrd : goal.returns-in-Lrd
returns-in-Lrd c =
    let s = c.args.self.now in
    let d : DatagramRecord = nth c.args.frame.now c.args.k in
    IsServed-as _ _ c.args.k c.args.frame.now s c.logical_read.new.frame s
    (ap (λ (x : Command). effect x s d.address (length d.payload)) c.in-Lrd.is) c.logical_read.ensures

pub returns-in-Lwr : goal.returns-in-Lwr
returns-in-Lwr c =
    let s = c.args.self.now in
    let d : DatagramRecord = nth c.args.frame.now c.args.k in
    IsServed-as _ _ c.args.k c.args.frame.now s c.logical_write.new.frame c.logical_write.new.self
    (ap (λ (x : Command). effect x s d.address (length d.payload)) c.in-Lwr.is) c.logical_write.ensures

pub returns-in-Lrw : goal.returns-in-Lrw
returns-in-Lrw c =
    let s = c.args.self.now in
    let d : DatagramRecord = nth c.args.frame.now c.args.k in
    IsServed-as _ _ c.args.k c.args.frame.now s c.logical_exchange.new.frame c.logical_exchange.new.self
    (ap (λ (x : Command). effect x s d.address (length d.payload)) c.in-Lrw.is) c.logical_exchange.ensures

pub returns-in-Nop : goal.returns-in-Nop
returns-in-Nop c =
    absurd (false≢true (addresses_somebody c.args.command c.args.self.now
    (nth c.args.frame.now c.args.k).address c.in-Nop.is c.requires.addressed))
