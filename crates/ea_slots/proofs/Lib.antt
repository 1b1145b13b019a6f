mod Beginning
mod Loading
mod Looking
mod Opening
mod Places
mod Settled
mod Starting
mod Telling
