-- A frame is answered, and any other packet is dropped.
use Rattle.std.proofs.Common.{◌≡◌, Ok, Err, inl, inr, refl, List}
use Rattle.std.proofs.lemmas.Result.{err_from_is_err_and}
use Rattle.ec_wire.specs.Datagram.{DatagramRecord}
use Rattle.ecat_serve.proofs.served.Served.take.Goals as goal

pub returns-in_ok-reply-in-Ok : goal.returns-in_ok-reply-in-Ok
returns-in_ok-reply-in-Ok g c =
    inl (record {
      frame = c.in-Ok.frame;
      spelt = c.in-Ok.ensures.found;
      walked = c.walk-arrival.new.self;
      arrival = c.walk-arrival.result;
      walks = rw (← c.hear.ensures) c.walk-arrival.ensures;
      loses = c.spare-spared.ensures.line;
      sent = Ok tt;
      replies = rw (← c.spare-spared.ensures.spared) c.in_ok-reply-in-Ok.ensures;
      ends_as = refl;
    })

pub returns-in_err-reply-in-Ok : goal.returns-in_err-reply-in-Ok
returns-in_err-reply-in-Ok g c =
    let p = err_from_is_err_and c.from_residual.result c.from_residual.ensures.1 in
    inl (record {
      frame = c.in-Ok.frame;
      spelt = c.in-Ok.ensures.found;
      walked = c.walk-arrival.new.self;
      arrival = c.walk-arrival.result;
      walks = rw (← c.hear.ensures) c.walk-arrival.ensures;
      loses = c.spare-spared.ensures.line;
      sent = Err c.in_err-reply-in-Ok.field-0.0;
      replies = rw (← c.spare-spared.ensures.spared) c.in_err-reply-in-Ok.ensures;
      ends_as = rw (p.1, p.2) refl;
    })

pub returns-in-Err : goal.returns-in-Err
returns-in-Err g c =
    inr (record {
      no_frame = λ (frame : List DatagramRecord) spelt.
          absurd (let no : Err c.in-Err.fault ≡ Ok frame = c.in-Err.ensures.only_found frame spelt in cc);
      ends_as = refl;
      leaves = c.move_on.ensures;
      stays = refl;
    })

pub tell-requires : goal.tell-requires
tell-requires g c = (c.in-Ok.frame, c.in-Ok.ensures.found)
